pub mod Columns
pub mod Rectangles
pub mod Scale
pub mod Colours
pub mod Escape
pub mod Texts
pub mod Laws
pub mod Sides
