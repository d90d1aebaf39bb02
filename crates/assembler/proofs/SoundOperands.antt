-- What holds of the operands that texts are: a name stands only where the operand carries one.
use Rattle.std.proofs.Common.{◌≡◌, refl, ap, subst, ℕ, Bool, true, false, cond, List, length, drop, Option, Some, None, inl, inr}
use Rattle.std.specs.Prelude.{◌⊎◌, ◌||◌, option_map, option_and_then, is_some, ℤ, pos, codes, if◌then◌else◌}
use Rattle.std.specs.List.{prefix_len, take_while}
use Rattle.std.specs.Str.{bytes_eq}
use Rattle.x86_forms.specs.declared.instr.Reg.{Reg}
use Rattle.x86_forms.specs.declared.instr.Base.{Base}
use Rattle.x86_forms.specs.declared.instr.Base.TheVariants.{None as NoBase, Reg as BaseReg, Rip}
use Rattle.asm_names.specs.Registers.{register_of, size_of}
use Rattle.asm_text.specs.declared.parts.Operand.{Operand}
use Rattle.asm_text.specs.declared.parts.Operand.TheVariants as o
use Rattle.asm_text.specs.Lexical.{either, ended, word_at, after_word, mark_at, numeral_at, number_at, addend_at, number_alone, is_name, is_local}
use Rattle.asm_text.specs.Operands.{Named, Place, bare, reg, wide_field, with_number, with_name, number_last, name_last, is_numeral, term, tail, is_scale, scale_of, scaled, indexed, index_at, based, fixed, first_register, by_rip, place_of, is_inside, bracketed, memory, sized_memory, sized, register, added, named, worded, plain_operand, operand_of}
use Rattle.assembler.specs.Sound.{is_word}
use Rattle.assembler.proofs.Fields.{Carries, Holds}

-- ---- values that may be missing

pub holds_if : {A : Type 0} (P : A → Type 0) (b : Bool) (x y : Option A) → (b ≡ true → Holds P x) → (b ≡ false → Holds P y) → Holds P (cond b x y)
holds_if P true x y f g = f refl
holds_if P false x y f g = g refl

pub holds_either : {A B : Type 0} (P : A → Type 0) (o : Option B) (f : B → Option A) (y : Option A) → ((b : B) → Holds P (f b)) → Holds P y → Holds P (either o f y)
holds_either P (Some b) f y all h = all b
holds_either P None f y all h = h

pub holds_then : {A B : Type 0} (P : A → Type 0) (o : Option B) (f : B → Option A) → ((b : B) → Holds P (f b)) → Holds P (option_and_then f o)
holds_then P (Some b) f all = all b
holds_then P None f all = tt

pub holds_map : {A B : Type 0} (P : A → Type 0) (Q : B → Type 0) (o : Option B) (f : B → A) → Holds Q o → ((b : B) → Q b → P (f b)) → Holds P (option_map f o)
holds_map P Q (Some b) f h all = all b h
holds_map P Q None f h all = tt

pub any_map : {A B : Type 0} (P : A → Type 0) (o : Option B) (f : B → A) → ((b : B) → P (f b)) → Holds P (option_map f o)
any_map P (Some b) f all = all b
any_map P None f all = tt

pub of_some : {A : Type 0} (P : A → Type 0) (x : Option A) (a : A) → x ≡ Some a → Holds P x → P a
of_some P x a e h = subst (Holds P) e h

-- ---- memory

abbrev pub IsSoundPlace : Place → Type 0
IsSoundPlace p = (length p.name ≡ 0) ⊎ ((is_name p.name ≡ true) × (p.m.disp ≡ wide_field))

abbrev OnPlace : Option Place → Type 0
OnPlace x = Holds IsSoundPlace x

number_last_ok : (base : Base) (index : Option (Reg × ℕ)) (fits : Bool) (x : Option ℤ × List ℕ) → OnPlace (number_last base index fits x)
number_last_ok base index fits x = holds_if IsSoundPlace (ended x.1) (Some (with_number base index fits x.0)) None (λ _. inl refl) (λ _. tt)

name_last_ok : (base : Base) (index : Option (Reg × ℕ)) (fits : Bool) (text : List ℕ) → OnPlace (name_last base index fits text)
unfolding name_last
name_last_ok base index fits text =
    holds_if IsSoundPlace (is_name (word_at text)) (option_and_then (λ x. if ended x.1 then Some (with_name base index fits (word_at text) x.0) else None) (addend_at (after_word text))) None
    (λ e. holds_then IsSoundPlace (addend_at (after_word text)) (λ x. if ended x.1 then Some (with_name base index fits (word_at text) x.0) else None)
    (λ x. holds_if IsSoundPlace (ended x.1) (Some (with_name base index fits (word_at text) x.0)) None (λ _. inr (e, refl)) (λ _. tt)))
    (λ _. tt)

term_ok : (base : Base) (index : Option (Reg × ℕ)) (fits : Bool) (text : List ℕ) → OnPlace (term base index fits text)
unfolding term
term_ok base index fits text =
    holds_if IsSoundPlace (is_numeral text) (option_and_then (number_last base index fits) (numeral_at false text)) (name_last base index fits text)
    (λ _. holds_then IsSoundPlace (numeral_at false text) (number_last base index fits) (number_last_ok base index fits))
    (λ _. name_last_ok base index fits text)

tail_ok : (base : Base) (index : Option (Reg × ℕ)) (fits : Bool) (text : List ℕ) → OnPlace (tail base index fits text)
unfolding tail
tail_ok base index fits text =
    holds_if IsSoundPlace (ended text) (Some (with_number base index fits (Some (pos 0)))) (either (mark_at 43 text) (λ behind. term base index fits behind) minus) (λ _. inl refl)
    (λ _. holds_either IsSoundPlace (mark_at 43 text) (λ behind. term base index fits behind) minus (λ behind. term_ok base index fits behind)
    (holds_either IsSoundPlace (mark_at 45 text) (λ behind. option_and_then (number_last base index fits) (numeral_at true behind)) None
    (λ behind. holds_then IsSoundPlace (numeral_at true behind) (number_last base index fits) (number_last_ok base index fits)) tt))
  where
    minus : Option Place
    minus = either (mark_at 45 text) (λ behind. option_and_then (number_last base index fits) (numeral_at true behind)) None

scaled_ok : (base : Base) (r : ℕ) (text : List ℕ) → OnPlace (scaled base r text)
unfolding scaled
scaled_ok base r text =
    holds_then IsSoundPlace (number_at text) (λ x. tail base (Some (reg r, scale_of x.0)) (is_scale x.0) x.1) (λ x. tail_ok base (Some (reg r, scale_of x.0)) (is_scale x.0) x.1)

indexed_ok : (base : Base) (r : ℕ) (text : List ℕ) → OnPlace (indexed base r text)
unfolding indexed
indexed_ok base r text =
    holds_either IsSoundPlace (mark_at 42 text) (λ behind. scaled base r behind) (tail base (Some (reg r, 1)) true text) (λ behind. scaled_ok base r behind) (tail_ok base (Some (reg r, 1)) true text)

based_ok : (b : ℕ) (text : List ℕ) → OnPlace (based b text)
unfolding based
based_ok b text =
    holds_either IsSoundPlace (index_at text) (λ x. indexed (BaseReg (reg b)) x.0 x.1) (tail (BaseReg (reg b)) None true text) (λ x. indexed_ok (BaseReg (reg b)) x.0 x.1) (tail_ok (BaseReg (reg b)) None true text)

fixed_ok : (text : List ℕ) → OnPlace (fixed text)
unfolding fixed
fixed_ok text =
    holds_if IsSoundPlace (is_name (word_at text)) (name_last NoBase None true text) (option_and_then (number_last NoBase None true) (number_at text)) (λ _. name_last_ok NoBase None true text)
    (λ _. holds_then IsSoundPlace (number_at text) (number_last NoBase None true) (number_last_ok NoBase None true))

first_register_ok : (r : ℕ) (text : List ℕ) → OnPlace (first_register r text)
unfolding first_register
first_register_ok r text = holds_either IsSoundPlace (mark_at 42 text) (λ behind. scaled NoBase r behind) (based r text) (λ behind. scaled_ok NoBase r behind) (based_ok r text)

by_rip_ok : (text : List ℕ) → OnPlace (by_rip text)
unfolding by_rip
by_rip_ok text = holds_if IsSoundPlace (ended text) None (tail Rip None true text) (λ _. tt) (λ _. tail_ok Rip None true text)

place_of_ok : (text : List ℕ) → OnPlace (place_of text)
unfolding place_of
place_of_ok text =
    holds_either IsSoundPlace (register_of 64 (word_at text)) (λ r. first_register r (after_word text)) (if bytes_eq (word_at text) (codes "rip") then by_rip (after_word text) else fixed text)
    (λ r. first_register_ok r (after_word text))
    (holds_if IsSoundPlace (bytes_eq (word_at text) (codes "rip")) (by_rip (after_word text)) (fixed text) (λ _. by_rip_ok (after_word text)) (λ _. fixed_ok text))

bracketed_ok : (text : List ℕ) → OnPlace (bracketed text)
unfolding bracketed
bracketed_ok text =
    holds_either IsSoundPlace (mark_at 93 (drop (prefix_len is_inside text) text)) (λ behind. if ended behind then place_of (take_while is_inside text) else None) None
    (λ behind. holds_if IsSoundPlace (ended behind) (place_of (take_while is_inside text)) None (λ _. place_of_ok (take_while is_inside text)) (λ _. tt)) tt

-- ---- operands

abbrev pub IsSoundOperand : Named → Type 0
IsSoundOperand x = (length x.name ≡ 0) ⊎ ((is_word x.name ≡ true) × Carries x.operand)

abbrev pub OnNamed : Option Named → Type 0
OnNamed x = Holds IsSoundOperand x

or_left : (a b : Bool) → a ≡ true → (a || b) ≡ true
or_left a b e = ap (λ x. x || b) e

or_right : (a b : Bool) → b ≡ true → (a || b) ≡ true
or_right true b e = refl
or_right false b e = e

memory_ok : (p : Place) → IsSoundPlace p → IsSoundOperand (memory p)
memory_ok p (inl e) = inl e
memory_ok p (inr h) = inr (or_left (is_name p.name) (is_local p.name) h.0, h.1)

sized_memory_ok : (w : ℕ) (p : Place) → IsSoundPlace p → IsSoundOperand (sized_memory w p)
sized_memory_ok w p (inl e) = inl e
sized_memory_ok w p (inr h) = inr (or_left (is_name p.name) (is_local p.name) h.0, h.1)

sized_ok : (w : ℕ) (text : List ℕ) → OnNamed (sized w text)
unfolding sized
sized_ok w text =
    holds_either IsSoundOperand (mark_at 91 text) (λ behind. option_map (sized_memory w) (bracketed behind)) None
    (λ behind. holds_map IsSoundOperand IsSoundPlace (bracketed behind) (sized_memory w) (bracketed_ok behind) (sized_memory_ok w)) tt

added_ok : (x : Operand) (name text : List ℕ) → is_word name ≡ true → Carries x → OnNamed (added x name text)
unfolding added
added_ok x name text word carried =
    holds_then IsSoundOperand (addend_at text) (λ a. if ended a.1 then Some (record { operand = x; name = name; addend = a.0 }) else None)
    (λ a. holds_if IsSoundOperand (ended a.1) (Some (record { operand = x; name = name; addend = a.0 })) None (λ _. inr (word, carried)) (λ _. tt))

named_ok : (word text : List ℕ) → OnNamed (named word text)
unfolding named
named_ok word text =
    holds_if IsSoundOperand (bytes_eq word (codes "rel")) (option_map (λ n. bare (o.Relative n)) (number_alone text)) (if is_name word then added o.Symbol word text else locally)
    (λ _. any_map IsSoundOperand (number_alone text) (λ n. bare (o.Relative n)) (λ n. inl refl))
    (λ _. holds_if IsSoundOperand (is_name word) (added o.Symbol word text) locally (λ e. added_ok o.Symbol word text (or_left (is_name word) (is_local word) e) tt)
    (λ _. holds_if IsSoundOperand (is_local word) (added o.Local word text) None (λ e. added_ok o.Local word text (or_right (is_name word) (is_local word) e) tt) (λ _. tt)))
  where
    locally : Option Named
    locally = if is_local word then added o.Local word text else None

worded_ok : (word text : List ℕ) → OnNamed (worded word text)
unfolding worded
worded_ok word text =
    holds_either IsSoundOperand (register word) (λ x. if ended text then Some (bare x) else None) (named word text)
    (λ x. holds_if IsSoundOperand (ended text) (Some (bare x)) None (λ _. inl refl) (λ _. tt)) (named_ok word text)

plain_operand_ok : (text : List ℕ) → OnNamed (plain_operand text)
unfolding plain_operand
plain_operand_ok text =
    holds_if IsSoundOperand (is_numeral text || is_some (mark_at 45 text)) (option_map (λ n. bare (o.Number n)) (number_alone text)) (worded (word_at text) (after_word text))
    (λ _. any_map IsSoundOperand (number_alone text) (λ n. bare (o.Number n)) (λ n. inl refl)) (λ _. worded_ok (word_at text) (after_word text))

pub operand_of_ok : (text : List ℕ) → OnNamed (operand_of text)
unfolding operand_of
operand_of_ok text =
    holds_either IsSoundOperand (mark_at 91 text) (λ behind. option_map memory (bracketed behind)) (either (size_of (word_at text)) (λ w. sized w (after_word text)) (plain_operand text))
    (λ behind. holds_map IsSoundOperand IsSoundPlace (bracketed behind) memory (bracketed_ok behind) memory_ok)
    (holds_either IsSoundOperand (size_of (word_at text)) (λ w. sized w (after_word text)) (plain_operand text) (λ w. sized_ok w (after_word text)) (plain_operand_ok text))
