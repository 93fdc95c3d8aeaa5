pub mod Status
pub mod Devices
pub mod Stream
pub mod Pipe
pub mod Waiting
pub mod Judged
