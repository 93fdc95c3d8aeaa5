pub mod Tables
pub mod Tracks
