-- The parameters of FFV1 (RFC 9043, section 4.2, "Parameters") and the record that holds them (section 4.3,
-- "Configuration Record").
pub mod Laws
pub mod Parameters
pub mod QuantTables
pub mod Reading
pub mod Record
pub mod SetFields
pub mod Track
pub mod Walk
