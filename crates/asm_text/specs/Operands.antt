-- Operands: registers, numbers, names, and memory `[base+index*s+n]` of which each part may be missing.
use Rattle.std.specs.Prelude.{ℕ, ◌-◌, ◌^◌, Bool, true, false, ◌&&◌, ◌||◌, not, nat_eq, nat_lt, if◌then◌else◌, List, [], ◌∷◌, length, drop, slice_index, Option, Some, None, is_some, option_map, option_and_then, codes, ℤ, pos}
use Rattle.std.specs.List.{prefix_len, take_while}
use Rattle.std.specs.Str.{bytes_eq}
use Rattle.std.specs.Char.{is_ascii_digit}
use Rattle.x86_forms.specs.declared.instr.Reg.{Reg}
use Rattle.x86_forms.specs.declared.instr.Mem.{Mem}
use Rattle.x86_forms.specs.declared.instr.Base.{Base}
use Rattle.x86_forms.specs.declared.instr.Base.TheVariants.{None as NoBase, Reg as BaseReg, Rip}
use Rattle.x86_forms.specs.Fits.{fits_32}
use Rattle.x86_forms.specs.Validity.{scale_ok}
use Rattle.asm_names.specs.Registers.{register_of, bounds_of, size_of}
use Rattle.asm_text.specs.declared.parts.Operand.{Operand}
use Rattle.asm_text.specs.declared.parts.Operand.TheVariants as o
use Rattle.asm_text.specs.Lexical.{either, ended, word_at, after_word, mark_at, numeral_at, number_at, addend_at, number_alone, is_name, is_local}

-- an operand with the name that may stand in it, which is empty where there is none, and the number added to the name
pub record Named : Type 0 where
  pub operand : Operand
  pub name : List ℕ
  pub addend : Option ℤ

abbrev pub bare : Operand → Named
bare x = record { operand = x; name = []; addend = Some (pos 0) }

abbrev pub reg : ℕ → Reg
reg r = record { 0 = r }

-- ---- memory

-- memory, with its name and the number added to it. fits says that its numbers fit their fields
pub record Place : Type 0 where
  pub m : Mem
  pub fits : Bool
  pub name : List ℕ
  pub addend : Option ℤ

-- a number of 32 bits that no shorter field holds: it stands where the linker fills in the address of a name
abbrev pub wide_field : ℤ
wide_field = pos 0x7FFF_FFFF

-- a signed number for a field of 32 bits, or 0 if it doesn't fit
abbrev pub signed_32 : Option ℤ → ℤ
signed_32 (Some z) = if fits_32 z then z else pos 0
signed_32 None = pos 0

abbrev pub is_signed_32 : Option ℤ → Bool
is_signed_32 (Some z) = fits_32 z
is_signed_32 None = false

abbrev pub with_number : Base → Option (Reg × ℕ) → Bool → Option ℤ → Place
with_number base index fits n = record { m = record { base = base; index = index; disp = signed_32 n }; fits = fits && is_signed_32 n; name = []; addend = Some (pos 0) }

abbrev pub with_name : Base → Option (Reg × ℕ) → Bool → List ℕ → Option ℤ → Place
with_name base index fits name addend = record { m = record { base = base; index = index; disp = wide_field }; fits = fits; name = name; addend = addend }

-- a number ends the operand
abbrev pub number_last : Base → Option (Reg × ℕ) → Bool → Option ℤ × List ℕ → Option Place
number_last base index fits x = if ended x.1 then Some (with_number base index fits x.0) else None

-- a name ends it, with a number added
unfoldable pub name_last : Base → Option (Reg × ℕ) → Bool → List ℕ → Option Place
name_last base index fits text =
    if is_name (word_at text) then option_and_then (λ x. if ended x.1 then Some (with_name base index fits (word_at text) x.0) else None) (addend_at (after_word text))
    else None

abbrev pub is_numeral : List ℕ → Bool
is_numeral text = is_ascii_digit (slice_index (word_at text) 0)

-- behind `+`: a number or a name
unfoldable pub term : Base → Option (Reg × ℕ) → Bool → List ℕ → Option Place
term base index fits text = if is_numeral text then option_and_then (number_last base index fits) (numeral_at false text) else name_last base index fits text

-- behind base and index: nothing, `+n`, `+name` or `-n`
unfoldable pub tail : Base → Option (Reg × ℕ) → Bool → List ℕ → Option Place
tail base index fits text =
    if ended text then Some (with_number base index fits (Some (pos 0)))
    else either (mark_at 43 text) (λ behind. term base index fits behind)
    (either (mark_at 45 text) (λ behind. option_and_then (number_last base index fits) (numeral_at true behind)) None)

abbrev pub is_scale : Option ℤ → Bool
is_scale (Some (pos s)) = scale_ok s
is_scale z = false

-- a scale of 1, 2, 4 or 8, or 1 if it is none of these
abbrev pub scale_of : Option ℤ → ℕ
scale_of (Some (pos s)) = if scale_ok s then s else 1
scale_of z = 1

-- behind `*`: the scale of the index register
unfoldable pub scaled : Base → ℕ → List ℕ → Option Place
scaled base r text = option_and_then (λ x. tail base (Some (reg r, scale_of x.0)) (is_scale x.0) x.1) (number_at text)

-- an index register, and what is behind it: a scale, which is 1 if it is missing
unfoldable pub indexed : Base → ℕ → List ℕ → Option Place
indexed base r text = either (mark_at 42 text) (λ behind. scaled base r behind) (tail base (Some (reg r, 1)) true text)

-- `+` and an index register, and what is behind them
abbrev pub index_at : List ℕ → Option (ℕ × List ℕ)
index_at text = option_and_then (λ behind. option_map (λ r. (r, after_word behind)) (register_of 64 (word_at behind))) (mark_at 43 text)

-- behind a base register: an index register, or the tail
unfoldable pub based : ℕ → List ℕ → Option Place
based b text = either (index_at text) (λ x. indexed (BaseReg (reg b)) x.0 x.1) (tail (BaseReg (reg b)) None true text)

-- without registers
unfoldable pub fixed : List ℕ → Option Place
fixed text = if is_name (word_at text) then name_last NoBase None true text else option_and_then (number_last NoBase None true) (number_at text)

-- a register stands first: the base, or the index if it has a scale
unfoldable pub first_register : ℕ → List ℕ → Option Place
first_register r text = either (mark_at 42 text) (λ behind. scaled NoBase r behind) (based r text)

-- `rip` and a number or a name
unfoldable pub by_rip : List ℕ → Option Place
by_rip text = if ended text then None else tail Rip None true text

-- what stands between the brackets
unfoldable pub place_of : List ℕ → Option Place
place_of text =
    either (register_of 64 (word_at text)) (λ r. first_register r (after_word text)) (if bytes_eq (word_at text) (codes "rip") then by_rip (after_word text) else fixed text)

abbrev pub is_inside : ℕ → Bool
is_inside b = not (nat_eq b 93)

-- behind `[`: memory, `]` and nothing more
unfoldable pub bracketed : List ℕ → Option Place
bracketed text =
    either (mark_at 93 (drop (prefix_len is_inside text) text)) (λ behind. if ended behind then place_of (take_while is_inside text) else None) (None)

-- ---- operands

abbrev pub memory : Place → Named
memory p = record { operand = o.Memory p.m p.fits; name = p.name; addend = p.addend }

abbrev pub sized_memory : ℕ → Place → Named
sized_memory w p = record { operand = o.Sized w p.m p.fits; name = p.name; addend = p.addend }

-- behind a size word
unfoldable pub sized : ℕ → List ℕ → Option Named
sized w text = either (mark_at 91 text) (λ behind. option_map (sized_memory w) (bracketed behind)) (None)

abbrev pub register_as : ℕ → Option ℕ → Option Operand
register_as w found = option_map (λ r. o.Register w (reg r)) found

abbrev pub or_else : {A : Type 0} → Option A → Option A → Option A
or_else (Some x) other = Some x
or_else None other = other

-- the register of this name
unfoldable pub register : List ℕ → Option Operand
register word =
    or_else (register_as 64 (register_of 64 word)) (or_else (register_as 32 (register_of 32 word)) (or_else (register_as 16 (register_of 16 word)) (or_else (register_as 8 (register_of 8 word))
    (option_map o.Bounds (bounds_of word)))))

-- a name with a number added
unfoldable pub added : Operand → List ℕ → List ℕ → Option Named
added x name text = option_and_then (λ a. if ended a.1 then Some (record { operand = x; name = name; addend = a.0 }) else None) (addend_at text)

-- `rel n`, a name or a local label
unfoldable pub named : List ℕ → List ℕ → Option Named
named word text =
    if bytes_eq word (codes "rel") then option_map (λ n. bare (o.Relative n)) (number_alone text)
    else (if is_name word then added o.Symbol word text
    else (if is_local word then added o.Local word text
    else None))

-- an operand that begins with a word
unfoldable pub worded : List ℕ → List ℕ → Option Named
worded word text = either (register word) (λ x. if ended text then Some (bare x) else None) (named word text)

-- an operand that begins with no size word and no bracket
unfoldable pub plain_operand : List ℕ → Option Named
plain_operand text =
    if is_numeral text || is_some (mark_at 45 text) then option_map (λ n. bare (o.Number n)) (number_alone text)
    else worded (word_at text) (after_word text)

-- the operand that a text is
unfoldable pub operand_of : List ℕ → Option Named
operand_of text =
    either (mark_at 91 text) (λ behind. option_map memory (bracketed behind)) (either (size_of (word_at text)) (λ w. sized w (after_word text)) (plain_operand text))
