pub mod SignedNumbers
pub mod Ends
pub mod PlainLines
-- definitions, and a proof, which a ghost member of `Lit` names: code_of-literal_of_code
pub mod Codes
pub mod Marking
pub mod MarkedFields
