-- The table of examples holds: the split rows by `parts_of`, the rows of same products by going through the pairs of terms, the rows of audit and of deploy
-- by the parts.
pub mod SplitRows
pub mod AuditRows
pub mod DeployRows
pub mod SameTest
pub mod SameRows
pub mod Table
