mod AddressedTexts
pub mod Built
pub mod Filling
pub mod Fronts
pub mod Giving
pub mod Heads
pub mod LineGiven
pub mod ListedForms
pub mod ListedLines
pub mod ListedOperands
pub mod ListedTexts
pub mod ManyOperands
pub mod Pairs
pub mod Rules
pub mod Surveying
pub mod Together
pub mod WholeTexts
pub mod Words
