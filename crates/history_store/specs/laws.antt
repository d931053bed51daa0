pub mod Learnt
