pub mod TypeTexts
pub mod TypeTextParts
pub mod Values
pub mod ShapeParts
pub mod PointerParts
pub mod ScalarParts
pub mod Standing
pub mod StandingParts
