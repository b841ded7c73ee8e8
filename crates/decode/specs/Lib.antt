pub mod Decoding
pub mod DecodeLaws
