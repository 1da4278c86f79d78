pub mod Cuts
pub mod Decimals
pub mod Filling
pub mod PartLists
pub mod Units
