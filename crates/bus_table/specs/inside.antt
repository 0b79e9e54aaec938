-- What only contracts of private functions and proofs name: not to be read for what is promised.
pub mod Fitting
pub mod Facts
pub mod Fillings
pub mod Keys
pub mod LineGives
pub mod Orders
pub mod Puts
pub mod Seen
