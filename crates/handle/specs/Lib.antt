-- What a handle's bits say, and that they come back whole.
pub mod Bits
pub mod RoundTrip
pub mod OnBits
