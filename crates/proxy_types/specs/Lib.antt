pub mod ServerIdentity
