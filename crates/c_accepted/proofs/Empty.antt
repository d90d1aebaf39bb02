-- Lists of broken rules that are empty, passed on. Declares nothing.
pub use Rattle.c_check.proofs.Emptied.{first_empty, second_empty, none_at, not_broken, neither, not_above}
