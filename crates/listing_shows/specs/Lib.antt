pub mod Shown
pub mod Found
pub mod Proof
pub mod Totalled
pub mod TotalsProof
pub mod Measured
