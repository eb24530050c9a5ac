-- What a call answers, in terms of the definitions of the calls.
pub mod Outcomes
pub mod Replies
pub mod Answers
pub mod Results
