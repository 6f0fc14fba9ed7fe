pub mod Jobs
pub mod Printed
