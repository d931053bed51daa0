pub mod containers
