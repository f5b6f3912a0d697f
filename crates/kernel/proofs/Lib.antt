pub mod PartByPart
