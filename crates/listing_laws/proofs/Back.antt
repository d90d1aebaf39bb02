-- Bytes of a slice, through their text.
use Rattle.std.proofs.Common.{◌≡◌, ℕ, zero, suc, ◌≤◌, ◌<◌, Fits, w8, true, List, [], ◌∷◌, length, Result, Ok, Err, sym, subst, arith}
use Rattle.std.specs.Prelude.{slice_index_or}
use Rattle.std.specs.List.{All}
use Rattle.obj_file.specs.declared.object.Object.{Object}
use Rattle.obj_file.specs.Object.{most_code}
use Rattle.disasm.specs.Listing.{Lists}
use Rattle.asm_text.specs.declared.fault.AsmKind.{AsmKind}
use Rattle.asm_text.specs.declared.fault.AsmFault.{AsmFault}
use Rattle.asm_text.specs.declared.fault.AsmFault.TheVariants.{Line as RefusedLine}
use Rattle.assembler.specs.Told.{Refuses}
use Rattle.listing_laws.specs.Read.{IsReadBack}
use Rattle.listing_laws.proofs.Whole.{listing_back}

bytes_small : (xs : List ℕ) → ((i : ℕ) → Fits w8 (slice_index_or xs i 0)) → All (λ b. b < 256) xs
bytes_small [] f k d h = absurd (omega arith)
bytes_small (x ∷ xs) f zero d h = omega (arith, f 0)
bytes_small (x ∷ xs) f (suc k) d h = bytes_small xs (λ i. f (suc i)) k d (omega arith)

pub read_back : (code text given : List ℕ) → length code ≤ most_code true → ((i : ℕ) → Fits w8 (slice_index_or code i 0)) → Lists code text → given ≡ text → IsReadBack code given
read_back code text given few bytes lists same = subst (λ (t : List ℕ). IsReadBack code t) (sym same) (listing_back code text few (bytes_small code bytes) lists)

pub same_object : (r : Result Object (ℕ × AsmKind)) (x y : Object) → r ≡ Ok x → r ≡ Ok y → x ≡ y
same_object r x y h k = cc

-- no line of it is refused
pub no_line : (r : Result Object (ℕ × AsmKind)) (x : Object) (e : AsmFault) (line : ℕ) (kind : AsmKind) → Refuses e r → e ≡ RefusedLine line kind → r ≡ Ok x → ⊥
no_line r x e line kind told is h = let refused : r ≡ Err (line, kind) = subst (λ (e : AsmFault). Refuses e r) is told in cc
