-- The registers of arguments.
use Rattle.std.proofs.Common.{◌≡◌, ℕ, zero, suc, ◌≤◌, refl, arith}
use Rattle.std.proofs.lemmas.Bool.Decides.{nat_tests}
use Rattle.call_sigs.specs.Signatures.{parameter_register}
use Rattle.step_code.specs.Steps.{arg_reg}

-- the border has them where code puts them
pub same_register : (i : ℕ) → arg_reg i ≡ parameter_register i
same_register zero = refl
same_register (suc zero) = refl
same_register (suc (suc zero)) = refl
same_register (suc (suc (suc zero))) = refl
same_register (suc (suc (suc (suc zero)))) = refl
same_register (suc (suc (suc (suc (suc n))))) = last (suc (suc (suc (suc (suc n))))) (omega arith)
  where
    last : (m : ℕ) → 5 ≤ m → 9 ≡ parameter_register m
    last m some = grind (arith, nat_tests)
