-- What follows from the definitions. The files build on each other in this order.
-- lines, fields and runs of spaces, read from pieces and put together again
pub mod Splitting
-- whole numbers: what a text of digits writes, and what writes a number
pub mod Numbers
-- what is read and written again, and what is written and read
pub mod Writing
-- import and export undo each other
pub mod RoundTrips
-- The definitions, tried on small texts.
pub mod Cases
