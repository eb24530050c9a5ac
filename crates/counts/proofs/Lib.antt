-- What the proofs of the function that counts cites.
mod Counting
