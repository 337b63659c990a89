-- The text of a record, and the sheet that holds a text under the new key.
pub mod Text
