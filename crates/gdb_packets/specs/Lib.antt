pub mod Packets
pub mod Requests
