pub mod Sequel
