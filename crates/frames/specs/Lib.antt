-- For each frame of RAM the last step on hand that changed it (02, L6), with no machine in it. Read in this order: OnHand (what the steps on hand touched),
-- Afresh (the index worked out from it), Keep (what a record keeps, and the index kept step by step), Bytes (the index as lent bytes).
pub mod OnHand
pub mod Afresh
pub mod Keep
pub mod Bytes
