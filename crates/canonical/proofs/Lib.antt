pub mod Tests
pub mod Bytes
pub mod Padding
pub mod RecordBytes
pub mod EndBytes
pub mod Cells
pub mod Shown
pub mod Memory
