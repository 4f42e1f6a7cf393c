pub mod TrueParcels
