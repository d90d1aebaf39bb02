-- Which bytes the texts of operands have.
use Rattle.std.proofs.Common.{◌≡◌, ℕ, suc, ◌^◌, ◌<◌, Bool, true, false, cond, not, List, [], ◌∷◌, ◌++◌, Option, Some, None, refl, ap, ◌∙◌, arith, nat_eq, nat_lt}
use Rattle.std.specs.Prelude.{◌&&◌, ◌||◌, decimal, ℤ, pos, negsuc}
use Rattle.std.specs.List.{list_all}
use Rattle.std.specs.Fmt.{signed_decimal}
use Rattle.std.proofs.lemmas.Bool.{and_parts}
use Rattle.std.proofs.lemmas.Bool.Decides.{nat_tests}
use Rattle.std.proofs.lemmas.List.Folds.{list_all-append}
use Rattle.x86_forms.specs.declared.instr.Reg.{Reg}
use Rattle.x86_forms.specs.declared.instr.Mem.{Mem}
use Rattle.x86_forms.specs.declared.instr.Base.{Base}
use Rattle.x86_forms.specs.declared.instr.Base.TheVariants.{None as NoBase, Reg as BaseReg, Rip}
use Rattle.x86_forms.specs.Fits.{fits_32, fits_64}
use Rattle.x86_forms.specs.Spelling.{is_zero}
use Rattle.x86_forms.specs.Validity.{scale_ok, index_ok, base_ok, mem_ok}
use Rattle.disasm.specs.Operands.{name_of, offset_text, disp_text, scaled_text, index_text, address_text}
use Rattle.asm_text.specs.Lexical.{is_word_byte}
use Rattle.listing_laws.proofs.Words.{register_64}
use Rattle.listing_laws.proofs.Numbers.{reads, digits_word}
use Rattle.listing_laws.proofs.Signed.{fits_wide}

-- a byte of an address
abbrev pub is_inner : ℕ → Bool
is_inner b = is_word_byte b || nat_eq b 43 || nat_eq b 45 || nat_eq b 42

-- no mark that ends an operand, a line or a line without its comment
abbrev pub is_quiet : ℕ → Bool
is_quiet b = not (nat_eq b 44) && not (nat_eq b 59) && not (nat_eq b 10)

-- no mark that ends a line or a line without its comment
abbrev pub is_line_byte : ℕ → Bool
is_line_byte b = not (nat_eq b 59) && not (nat_eq b 10)

pub weaker : (p q : ℕ → Bool) → ((b : ℕ) → p b ≡ true → q b ≡ true) → (xs : List ℕ) → list_all p xs ≡ true → list_all q xs ≡ true
weaker p q more [] h = refl
weaker p q more (x ∷ xs) h = let e = and_parts (p x) (list_all p xs) h in (λ i. more x e.0 i && weaker p q more xs e.1 i)

pub both : (p : ℕ → Bool) (xs ys : List ℕ) → list_all p xs ≡ true → list_all p ys ≡ true → list_all p (xs ++ ys) ≡ true
both p xs ys h k = list_all-append p xs ys ∙ (λ i. h i && k i)

word_inner : (b : ℕ) → is_word_byte b ≡ true → is_inner b ≡ true
word_inner b h = ap (λ t. t || nat_eq b 43 || nat_eq b 45 || nat_eq b 42) h

pub word_quiet : (b : ℕ) → is_word_byte b ≡ true → is_quiet b ≡ true
word_quiet b h = grind (arith, nat_tests)

pub inner_quiet : (b : ℕ) → is_inner b ≡ true → is_quiet b ≡ true
inner_quiet b h = grind (arith, nat_tests)

pub inner_inside : (b : ℕ) → is_inner b ≡ true → not (nat_eq b 93) ≡ true
inner_inside b h = grind (arith, nat_tests)

pub quiet_line : (b : ℕ) → is_quiet b ≡ true → is_line_byte b ≡ true
quiet_line b h = grind (arith, nat_tests)

inner_word : (t : List ℕ) → list_all is_word_byte t ≡ true → list_all is_inner t ≡ true
inner_word t h = weaker is_word_byte is_inner word_inner t h

inner_name : (r : Reg) → nat_lt r.0 16 ≡ true → list_all is_inner (name_of r) ≡ true
inner_name r h = let below : r.0 < 16 = grind (arith, nat_tests) in inner_word (name_of r) (register_64 r.0 below).word.bytes

inner_decimal : (n : ℕ) → n < 2 ^ 64 → list_all is_inner (decimal n) ≡ true
inner_decimal n h = inner_word (decimal n) (digits_word (decimal n) (reads n h).digits)

pub inner_signed : (z : ℤ) → fits_64 z ≡ true → list_all is_inner (signed_decimal z) ≡ true
inner_signed (pos n) f = let h : n < 2 ^ 64 = grind (arith, nat_tests) in inner_decimal n h
inner_signed (negsuc n) f = let h : suc n < 2 ^ 64 = grind (arith, nat_tests) in inner_decimal (suc n) h

inner_offset : (z : ℤ) → fits_32 z ≡ true → list_all is_inner (offset_text z) ≡ true
inner_offset (pos n) f = inner_signed (pos n) (fits_wide (pos n) f)
inner_offset (negsuc n) f = inner_signed (negsuc n) (fits_wide (negsuc n) f)

inner_disp : (z : ℤ) → fits_32 z ≡ true → list_all is_inner (disp_text z) ≡ true
inner_disp z f = by (is_zero z)
  where
    by : (b : Bool) → list_all is_inner (cond b [] (offset_text z)) ≡ true
    by true = refl
    by false = inner_offset z f

inner_scaled : (r : Reg) (s : ℕ) → nat_lt r.0 16 ≡ true → scale_ok s ≡ true → list_all is_inner (scaled_text r s) ≡ true
inner_scaled r s h ok =
    let small : s < 2 ^ 64 = grind (arith, nat_tests) in
    both is_inner (name_of r ++ 42 ∷ []) (decimal s) (both is_inner (name_of r) (42 ∷ []) (inner_name r h) refl) (inner_decimal s small)

inner_index : (index : Option (Reg × ℕ)) → index_ok index ≡ true → list_all is_inner (index_text index) ≡ true
inner_index None ok = refl
inner_index (Some x) ok = by (nat_eq x.1 1)
  where
    below : nat_lt x.0.0 16 ≡ true
    below = (and_parts (nat_lt x.0.0 16) (not (nat_eq x.0.0 4)) (and_parts (nat_lt x.0.0 16 && not (nat_eq x.0.0 4)) (scale_ok x.1) ok).0).0

    by : (b : Bool) → list_all is_inner (43 ∷ cond b (name_of x.0) (scaled_text x.0 x.1)) ≡ true
    by true = inner_name x.0 below
    by false = inner_scaled x.0 x.1 below (and_parts (nat_lt x.0.0 16 && not (nat_eq x.0.0 4)) (scale_ok x.1) ok).1

inner_by : (base : Base) (index : Option (Reg × ℕ)) (z : ℤ) → base_ok base index ≡ true → index_ok index ≡ true → fits_32 z ≡ true → list_all is_inner (address_text base index z) ≡ true
inner_by NoBase None z b x f = inner_signed z (fits_wide z f)
inner_by NoBase (Some x) z b ok f =
    let p = and_parts (nat_lt x.0.0 16 && not (nat_eq x.0.0 4)) (scale_ok x.1) ok in
    both is_inner (scaled_text x.0 x.1) (disp_text z) (inner_scaled x.0 x.1 (and_parts (nat_lt x.0.0 16) (not (nat_eq x.0.0 4)) p.0).0 p.1) (inner_disp z f)
inner_by Rip index z b x f = inner_offset z f
inner_by (BaseReg r) index z b ok f = both is_inner (name_of r ++ index_text index) (disp_text z) (both is_inner (name_of r) (index_text index) (inner_name r b) (inner_index index ok)) (inner_disp z f)

pub inner_address : (m : Mem) → mem_ok m ≡ true → list_all is_inner (address_text m.base m.index m.disp) ≡ true
inner_address m ok =
    let p = and_parts (base_ok m.base m.index && index_ok m.index) (fits_32 m.disp) ok in
    let q = and_parts (base_ok m.base m.index) (index_ok m.index) p.0 in
    inner_by m.base m.index m.disp q.0 q.1 p.1
