-- Memory is read back: what stands between the brackets.
use Rattle.std.proofs.Common.{◌≡◌, ℕ, zero, suc, ◌^◌, ◌<◌, Bool, true, false, true≢false, cond, not, List, [], ◌∷◌, ◌++◌, Option, Some, None, refl, sym, ap, subst, ◌∙◌, arith, nat_eq, nat_lt, append-nil, append_assoc}
use Rattle.std.specs.Prelude.{◌&&◌, codes, decimal, slice_index, ℤ, pos, negsuc, option_and_then, option_map}
use Rattle.std.specs.Fmt.{signed_decimal}
use Rattle.std.specs.Str.{bytes_eq}
use Rattle.std.specs.Char.{is_ascii_digit, is_ascii_alphabetic}
use Rattle.std.proofs.lemmas.Bool.{and_parts}
use Rattle.std.proofs.lemmas.Bool.Decides.{nat_tests}
use Rattle.x86_forms.specs.declared.instr.Reg.{Reg}
use Rattle.x86_forms.specs.declared.instr.Mem.{Mem}
use Rattle.x86_forms.specs.declared.instr.Base.{Base}
use Rattle.x86_forms.specs.declared.instr.Base.TheVariants.{None as NoBase, Reg as BaseReg, Rip}
use Rattle.x86_forms.specs.Fits.{fits_32, fits_64}
use Rattle.x86_forms.specs.Validity.{scale_ok, index_ok, base_ok, mem_ok}
use Rattle.asm_names.specs.First.{first_from}
use Rattle.asm_names.specs.Registers.{register_text, register_of, text_64}
use Rattle.disasm.specs.Operands.{name_of, offset_text, disp_text, scaled_text, index_text, address_text}
use Rattle.asm_text.specs.Lexical.{either, is_blank, is_word_byte, ended, skip, word_at, after_word, mark_at, numeral_at, number_at}
use Rattle.asm_text.specs.Operands.{Place, reg, with_number, number_last, name_last, term, tail, is_scale, scale_of, scaled, indexed, index_at, based, fixed, first_register, by_rip, place_of}
use Rattle.listing_laws.proofs.Spans.{stops, front_word, behind_word}
use Rattle.listing_laws.proofs.Marks.{mark_here, mark_none, not_ended}
use Rattle.listing_laws.proofs.Words.{IsWord, IsNoWord, register_64, whole_found, nothing_no_word}
use Rattle.listing_laws.proofs.Signed.{fits_wide, decimal_alone, decimal_digit, decimal_no_word, numeral_above, numeral_below, number_read}

-- memory whose numbers fit, without a name
abbrev pub place : Mem → Place
place m = record { m = m; fits = true; name = []; addend = Some (pos 0) }

abbrev pub memory_of : Base → Option (Reg × ℕ) → ℤ → Mem
memory_of base index disp = record { base = base; index = index; disp = disp }

number_fits : (base : Base) (index : Option (Reg × ℕ)) (z : ℤ) → fits_32 z ≡ true → with_number base index true (Some z) ≡ place (memory_of base index z)
number_fits base index z f = λ i. record { m = record { base = base; index = index; disp = cond (f i) z (pos 0) }; fits = f i; name = []; addend = Some (pos 0) }

-- ---- displacements

-- what a displacement behind something is read as
record IsTail (text : List ℕ) (z : ℤ) : Type 0 where
  word : stops is_word_byte text ≡ true
  star : mark_at 42 text ≡ None
  no_index : index_at text ≡ None
  read : (base : Base) (index : Option (Reg × ℕ)) → tail base index true text ≡ Some (place (memory_of base index z))

below_32 : (n : ℕ) → nat_lt n (2 ^ 31) ≡ true → n < 2 ^ 63
below_32 n f = grind (arith, nat_tests)

no_tail : IsTail [] (pos 0)
unfolding tail ended skip mark_at
no_tail = record { word = refl; star = refl; no_index = refl; read = λ base index. refl }

numeral_alone_above : (n : ℕ) → n < 2 ^ 63 → numeral_at false (decimal n) ≡ Some (Some (pos n), [])
numeral_alone_above n h = ap (numeral_at false) (sym (append-nil (decimal n))) ∙ numeral_above n [] h refl

numeral_alone_below : (n : ℕ) → n < 2 ^ 63 → numeral_at true (decimal (suc n)) ≡ Some (Some (negsuc n), [])
numeral_alone_below n h = ap (numeral_at true) (sym (append-nil (decimal (suc n)))) ∙ numeral_below n [] h refl

term_read : (base : Base) (index : Option (Reg × ℕ)) (n : ℕ) → fits_32 (pos n) ≡ true → term base index true (decimal n) ≡ Some (place (memory_of base index (pos n)))
unfolding term ended skip
term_read base index n f =
    let h = below_32 n f in
    let small : n < 2 ^ 64 = omega arith in
    ap (λ b. cond b (option_and_then (number_last base index true) (numeral_at false (decimal n))) (name_last base index true (decimal n))) (ap (λ w. is_ascii_digit (slice_index w 0)) (decimal_alone n small) ∙ decimal_digit n small)
    ∙ ap (option_and_then (number_last base index true)) (numeral_alone_above n h)
    ∙ ap Some (number_fits base index (pos n) f)

plus_read : (base : Base) (index : Option (Reg × ℕ)) (n : ℕ) → fits_32 (pos n) ≡ true → tail base index true (43 ∷ decimal n) ≡ Some (place (memory_of base index (pos n)))
unfolding tail
plus_read base index n f =
    let text : List ℕ = 43 ∷ decimal n in
    let other = either (mark_at 45 text) (λ behind. option_and_then (number_last base index true) (numeral_at true behind)) None in
    ap (λ b. cond b (Some (with_number base index true (Some (pos 0)))) (either (mark_at 43 text) (λ behind. term base index true behind) other)) (not_ended 43 (decimal n) refl)
    ∙ ap (λ o. either o (λ behind. term base index true behind) other) (mark_here 43 (decimal n) refl)
    ∙ term_read base index n f

minus_read : (base : Base) (index : Option (Reg × ℕ)) (n : ℕ) → fits_32 (negsuc n) ≡ true → tail base index true (45 ∷ decimal (suc n)) ≡ Some (place (memory_of base index (negsuc n)))
unfolding tail ended skip
minus_read base index n f =
    let text : List ℕ = 45 ∷ decimal (suc n) in
    let other = λ (o : Option (List ℕ)). either o (λ behind. option_and_then (number_last base index true) (numeral_at true behind)) None in
    ap (λ b. cond b (Some (with_number base index true (Some (pos 0)))) (either (mark_at 43 text) (λ behind. term base index true behind) (other (mark_at 45 text)))) (not_ended 45 (decimal (suc n)) refl)
    ∙ ap (λ o. either o (λ behind. term base index true behind) (other (mark_at 45 text))) (mark_none 43 text refl refl)
    ∙ ap other (mark_here 45 (decimal (suc n)) refl)
    ∙ ap (option_and_then (number_last base index true)) (numeral_alone_below n (below_32 n f))
    ∙ ap Some (number_fits base index (negsuc n) f)

plus_no_index : (n : ℕ) → n < 2 ^ 64 → index_at (43 ∷ decimal n) ≡ None
plus_no_index n h =
    ap (option_and_then (λ behind. option_map (λ r. (r, after_word behind)) (register_of 64 (word_at behind)))) (mark_here 43 (decimal n) refl)
    ∙ ap (option_map (λ r. (r, after_word (decimal n)))) (ap (register_of 64) (decimal_alone n h) ∙ (decimal_no_word n h).register)

minus_no_index : (n : ℕ) → index_at (45 ∷ decimal (suc n)) ≡ None
minus_no_index n = ap (option_and_then (λ behind. option_map (λ r. (r, after_word behind)) (register_of 64 (word_at behind)))) (mark_none 43 (45 ∷ decimal (suc n)) refl refl)

offset_tail : (z : ℤ) → fits_32 z ≡ true → IsTail (offset_text z) z
offset_tail (pos n) f =
    let h = below_32 n f in
    record { word = refl; star = mark_none 42 (43 ∷ decimal n) refl refl; no_index = plus_no_index n (omega arith); read = λ base index. plus_read base index n f }
offset_tail (negsuc n) f = record { word = refl; star = mark_none 42 (45 ∷ decimal (suc n)) refl refl; no_index = minus_no_index n; read = λ base index. minus_read base index n f }

disp_tail : (z : ℤ) → fits_32 z ≡ true → IsTail (disp_text z) z
disp_tail (pos zero) f = no_tail
disp_tail (pos (suc n)) f = let e : nat_eq (suc n) 0 ≡ false = grind (arith, nat_tests) in subst (λ b. IsTail (cond b [] (offset_text (pos (suc n)))) (pos (suc n))) (sym e) (offset_tail (pos (suc n)) f)
disp_tail (negsuc n) f = offset_tail (negsuc n) f

-- ---- index registers

scale_small : (s : ℕ) → scale_ok s ≡ true → s < 2 ^ 63
scale_small s h = grind (arith, nat_tests)

fits_scale : (s : ℕ) → scale_ok s ≡ true → fits_64 (pos s) ≡ true
fits_scale s h = let below = scale_small s h in grind (arith, nat_tests)

-- behind `*`
scaled_read : (base : Base) (q s : ℕ) (rest : List ℕ) (z : ℤ) → scale_ok s ≡ true → IsTail rest z → scaled base q (decimal s ++ rest) ≡ Some (place (memory_of base (Some (reg q, s)) z))
unfolding scaled
scaled_read base q s rest z ok t =
    ap (option_and_then (λ x. tail base (Some (reg q, scale_of x.0)) (is_scale x.0) x.1)) (number_read (pos s) rest (fits_scale s ok) t.word)
    ∙ (λ i. tail base (Some (reg q, cond (ok i) s 1)) (ok i) rest)
    ∙ t.read base (Some (reg q, s))

starred : (base : Base) (q s : ℕ) (rest : List ℕ) (z : ℤ) → scale_ok s ≡ true → IsTail rest z → indexed base q (42 ∷ decimal s ++ rest) ≡ Some (place (memory_of base (Some (reg q, s)) z))
unfolding indexed
starred base q s rest z ok t =
    ap (λ o. either o (λ behind. scaled base q behind) (tail base (Some (reg q, 1)) true (42 ∷ decimal s ++ rest))) (mark_here 42 (decimal s ++ rest) refl)
    ∙ scaled_read base q s rest z ok t

unstarred : (base : Base) (q : ℕ) (rest : List ℕ) (z : ℤ) → IsTail rest z → indexed base q rest ≡ Some (place (memory_of base (Some (reg q, 1)) z))
unfolding indexed
unstarred base q rest z t = ap (λ o. either o (λ behind. scaled base q behind) (tail base (Some (reg q, 1)) true rest)) t.star ∙ t.read base (Some (reg q, 1))

-- the word of a register
pub letter_no_blank : (b : ℕ) → is_ascii_alphabetic b ≡ true → not (is_blank b) ≡ true
letter_no_blank b h = grind (arith, nat_tests)

word_no_blank : (t rest : List ℕ) → IsWord t → stops is_blank (t ++ rest) ≡ true
word_no_blank [] rest w = absurd (true≢false (sym w.letter))
word_no_blank (b ∷ t) rest w = letter_no_blank b w.letter

pub word_of : (t rest : List ℕ) → IsWord t → stops is_word_byte rest ≡ true → word_at (t ++ rest) ≡ t
word_of t rest w s = front_word t rest w.bytes s (word_no_blank t rest w)

pub after_of : (t rest : List ℕ) → IsWord t → stops is_word_byte rest ≡ true → after_word (t ++ rest) ≡ rest
after_of t rest w s = behind_word t rest w.bytes s (word_no_blank t rest w)

-- `+` and an index register
index_found : (q : ℕ) (rest : List ℕ) → q < 16 → stops is_word_byte rest ≡ true → index_at (43 ∷ register_text 64 q ++ rest) ≡ Some (q, rest)
index_found q rest h s =
    let w = (register_64 q h).word in
    ap (option_and_then (λ behind. option_map (λ r. (r, after_word behind)) (register_of 64 (word_at behind)))) (mark_here 43 (register_text 64 q ++ rest) refl)
    ∙ (λ i. option_map (λ (r : ℕ). (r, after_of (register_text 64 q) rest w s i)) (register_of 64 (word_of (register_text 64 q) rest w s i)))
    ∙ ap (option_map (λ r. (r, rest))) (whole_found q h)

based_read : (b : ℕ) (q : ℕ) (rest : List ℕ) (m : Mem) → q < 16 → stops is_word_byte rest ≡ true → indexed (BaseReg (reg b)) q rest ≡ Some (place m) → based b (43 ∷ register_text 64 q ++ rest) ≡ Some (place m)
unfolding based
based_read b q rest m h s e =
    ap (λ (o : Option (ℕ × List ℕ)). either o (λ x. indexed (BaseReg (reg b)) x.0 x.1) (tail (BaseReg (reg b)) None true (43 ∷ register_text 64 q ++ rest))) (index_found q rest h s)
    ∙ e

scaled_behind : (r : Reg) (s : ℕ) (rest : List ℕ) → scaled_text r s ++ rest ≡ register_text 64 r.0 ++ (42 ∷ decimal s ++ rest)
scaled_behind r s rest = append_assoc (name_of r ++ 42 ∷ []) (decimal s) rest ∙ append_assoc (name_of r) (42 ∷ []) (decimal s ++ rest)

-- an index with its scale, behind a base
record IsIndex (text : List ℕ) (b : ℕ) (m : Mem) : Type 0 where
  word : stops is_word_byte text ≡ true
  star : mark_at 42 text ≡ None
  read : based b text ≡ Some (place m)

index_read : (b : ℕ) (index : Option (Reg × ℕ)) (rest : List ℕ) (z : ℤ) → index_ok index ≡ true → IsTail rest z → IsIndex (index_text index ++ rest) b (memory_of (BaseReg (reg b)) index z)
unfolding based
index_read b None rest z ok t = record {
  word = t.word;
  star = t.star;
  read = ap (λ (o : Option (ℕ × List ℕ)). either o (λ x. indexed (BaseReg (reg b)) x.0 x.1) (tail (BaseReg (reg b)) None true rest)) t.no_index ∙ t.read (BaseReg (reg b)) None;
}
index_read b (Some x) rest z ok t = by (nat_eq x.1 1) refl
  where
    parts : ((nat_lt x.0.0 16 ≡ true) × (not (nat_eq x.0.0 4) ≡ true)) × (scale_ok x.1 ≡ true)
    parts = let p = and_parts (nat_lt x.0.0 16 && not (nat_eq x.0.0 4)) (scale_ok x.1) ok in (and_parts (nat_lt x.0.0 16) (not (nat_eq x.0.0 4)) p.0, p.1)

    below : x.0.0 < 16
    below = let p = parts.0.0 in grind (arith, nat_tests, p)

    m : Mem
    m = memory_of (BaseReg (reg b)) (Some x) z

    long : based b ((43 ∷ scaled_text x.0 x.1) ++ rest) ≡ Some (place m)
    long =
        ap (λ l. based b (43 ∷ l)) (scaled_behind x.0 x.1 rest)
        ∙ based_read b x.0.0 (42 ∷ decimal x.1 ++ rest) m below refl (starred (BaseReg (reg b)) x.0.0 x.1 rest z parts.1 t)

    one : nat_eq x.1 1 ≡ true → based b ((43 ∷ name_of x.0) ++ rest) ≡ Some (place m)
    one e =
        let same : 1 ≡ x.1 = grind (arith, nat_tests) in
        based_read b x.0.0 rest m below t.word (unstarred (BaseReg (reg b)) x.0.0 rest z t ∙ ap (λ s. Some (place (memory_of (BaseReg (reg b)) (Some (x.0, s)) z))) same)

    by : (c : Bool) → nat_eq x.1 1 ≡ c → IsIndex ((43 ∷ cond c (name_of x.0) (scaled_text x.0 x.1)) ++ rest) b m
    by true e = record { word = refl; star = mark_none 42 ((43 ∷ name_of x.0) ++ rest) refl refl; read = one e }
    by false e = record { word = refl; star = mark_none 42 ((43 ∷ scaled_text x.0 x.1) ++ rest) refl refl; read = long }

-- ---- addresses

by_register : (r : ℕ) (rest : List ℕ) (p : Option Place) → r < 16 → stops is_word_byte rest ≡ true → first_register r rest ≡ p → place_of (register_text 64 r ++ rest) ≡ p
unfolding place_of
by_register r rest p h s e =
    let text = register_text 64 r ++ rest in
    let w = (register_64 r h).word in
    let other = cond (bytes_eq (word_at text) (codes "rip")) (by_rip (after_word text)) (fixed text) in
    ap (λ (t : List ℕ). either (register_of 64 t) (λ r. first_register r (after_word text)) other) (word_of (register_text 64 r) rest w s)
    ∙ ap (λ (o : Option ℕ). either o (λ r. first_register r (after_word text)) other) (whole_found r h)
    ∙ ap (first_register r) (after_of (register_text 64 r) rest w s)
    ∙ e

base_first : (r : ℕ) (rest : List ℕ) → mark_at 42 rest ≡ None → first_register r rest ≡ based r rest
unfolding first_register
base_first r rest star = ap (λ (o : Option (List ℕ)). either o (λ behind. scaled NoBase r behind) (based r rest)) star

index_first : (r s : ℕ) (rest : List ℕ) (z : ℤ) → scale_ok s ≡ true → IsTail rest z → first_register r (42 ∷ decimal s ++ rest) ≡ Some (place (memory_of NoBase (Some (reg r, s)) z))
unfolding first_register
index_first r s rest z ok t =
    ap (λ (o : Option (List ℕ)). either o (λ behind. scaled NoBase r behind) (based r (42 ∷ decimal s ++ rest))) (mark_here 42 (decimal s ++ rest) refl)
    ∙ scaled_read NoBase r s rest z ok t

based_place : (r : ℕ) (index : Option (Reg × ℕ)) (z : ℤ) → r < 16 → index_ok index ≡ true → fits_32 z ≡ true → place_of (address_text (BaseReg (reg r)) index z) ≡ Some (place (memory_of (BaseReg (reg r)) index z))
based_place r index z h ok f =
    let rest = index_text index ++ disp_text z in
    let t = index_read r index (disp_text z) z ok (disp_tail z f) in
    ap place_of (append_assoc (register_text 64 r) (index_text index) (disp_text z))
    ∙ by_register r rest (Some (place (memory_of (BaseReg (reg r)) index z))) h t.word (base_first r rest t.star ∙ t.read)

index_place : (x : Reg × ℕ) (z : ℤ) → index_ok (Some x) ≡ true → fits_32 z ≡ true → place_of (address_text NoBase (Some x) z) ≡ Some (place (memory_of NoBase (Some x) z))
index_place x z ok f =
    let p = and_parts (nat_lt x.0.0 16 && not (nat_eq x.0.0 4)) (scale_ok x.1) ok in
    let q = (and_parts (nat_lt x.0.0 16) (not (nat_eq x.0.0 4)) p.0).0 in
    let below : x.0.0 < 16 = grind (arith, nat_tests, q) in
    ap place_of (scaled_behind x.0 x.1 (disp_text z))
    ∙ by_register x.0.0 (42 ∷ decimal x.1 ++ disp_text z) (Some (place (memory_of NoBase (Some x) z))) below refl (index_first x.0.0 x.1 (disp_text z) z p.1 (disp_tail z f))

-- a number alone

pub signed_no_word : (z : ℤ) → fits_64 z ≡ true → IsNoWord (word_at (signed_decimal z))
signed_no_word (pos n) f = let small : n < 2 ^ 64 = below_pos n f in subst IsNoWord (sym (decimal_alone n small)) (decimal_no_word n small)
  where
    below_pos : (n : ℕ) → nat_lt n (2 ^ 63) ≡ true → n < 2 ^ 64
    below_pos n f = grind (arith, nat_tests)
signed_no_word (negsuc n) f = subst IsNoWord (sym (front_word [] (45 ∷ decimal (suc n)) refl refl refl)) nothing_no_word

fixed_read : (z : ℤ) → fits_32 z ≡ true → fixed (signed_decimal z) ≡ Some (place (memory_of NoBase None z))
unfolding fixed ended skip
fixed_read z f =
    let text = signed_decimal z in
    ap (λ b. cond b (name_last NoBase None true text) (option_and_then (number_last NoBase None true) (number_at text))) (signed_no_word z (fits_wide z f)).name
    ∙ ap (option_and_then (number_last NoBase None true)) (ap number_at (sym (append-nil text)) ∙ number_read z [] (fits_wide z f) refl)
    ∙ ap Some (number_fits NoBase None z f)

fixed_place : (z : ℤ) → fits_32 z ≡ true → place_of (address_text NoBase None z) ≡ Some (place (memory_of NoBase None z))
unfolding place_of
fixed_place z f =
    let text = signed_decimal z in
    let no = signed_no_word z (fits_wide z f) in
    ap (λ (o : Option ℕ). either o (λ r. first_register r (after_word text)) (cond (bytes_eq (word_at text) (codes "rip")) (by_rip (after_word text)) (fixed text))) no.register
    ∙ ap (λ b. cond b (by_rip (after_word text)) (fixed text)) no.rip
    ∙ fixed_read z f

-- rip

offset_some : (z : ℤ) → ended (offset_text z) ≡ false
offset_some (pos n) = not_ended 43 (decimal n) refl
offset_some (negsuc n) = not_ended 45 (decimal (suc n)) refl

rip_unknown : register_of 64 (codes "rip") ≡ None
unfolding register_of first_from register_text text_64
rip_unknown = refl

rip_place : (z : ℤ) → fits_32 z ≡ true → place_of (address_text Rip None z) ≡ Some (place (memory_of Rip None z))
unfolding place_of by_rip
rip_place z f =
    let rest = offset_text z in
    let text = codes "rip" ++ rest in
    let t = offset_tail z f in
    let word : word_at text ≡ codes "rip" = front_word (codes "rip") rest refl t.word refl in
    let behind : after_word text ≡ rest = behind_word (codes "rip") rest refl t.word refl in
    (λ i. either (register_of 64 (word i)) (λ r. first_register r (after_word text)) (cond (bytes_eq (word i) (codes "rip")) (by_rip (behind i)) (fixed text)))
    ∙ ap (λ (o : Option ℕ). either o (λ r. first_register r (after_word text)) (by_rip rest)) rip_unknown
    ∙ ap (λ b. cond b None (tail Rip None true rest)) (offset_some z)
    ∙ t.read Rip None

by_base : (base : Base) (index : Option (Reg × ℕ)) (z : ℤ) → base_ok base index ≡ true → index_ok index ≡ true → fits_32 z ≡ true → place_of (address_text base index z) ≡ Some (place (memory_of base index z))
by_base NoBase None z b x f = fixed_place z f
by_base NoBase (Some x) z b ok f = index_place x z ok f
by_base Rip None z b x f = rip_place z f
by_base Rip (Some x) z b ok f = absurd (true≢false (sym b))
by_base (BaseReg r) index z b ok f = let h : r.0 < 16 = grind (arith, nat_tests, b) in based_place r.0 index z h ok f

-- every valid address is read back
pub place_read : (m : Mem) → mem_ok m ≡ true → place_of (address_text m.base m.index m.disp) ≡ Some (place m)
place_read m ok =
    let p = and_parts (base_ok m.base m.index && index_ok m.index) (fits_32 m.disp) ok in
    let q = and_parts (base_ok m.base m.index) (index_ok m.index) p.0 in
    by_base m.base m.index m.disp q.0 q.1 p.1
