-- Laws: what the functions' proofs cite, and that a check needs no byte of RAM or paper. Checked: what a check answers.
-- GivenBack and Typed: what is given back can be laid down again, and a good world stays good.
pub mod Laws
pub mod Checked
pub mod GivenBack
pub mod Typed
