pub mod ClassTexts
pub mod Normal
pub mod LittleEndian
pub mod Parts
pub mod Spellings
pub mod Writes
