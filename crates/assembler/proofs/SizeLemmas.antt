-- An accepted line adds as many bytes as its size.
use Rattle.std.proofs.Common.{◌≡◌, refl, sym, ap, ◌∙◌, ℕ, ◌+◌, ◌≤◌, Bool, true, false, true≢false, cond, Option, None, Some, List, [], length, inl, inr, arith}
use Rattle.std.specs.Prelude.{◌&&◌, nat_eq, is_none, ℤ}
use Rattle.std.proofs.lemmas.List.{length-append, length-map, length-replicate, length-take, length-drop}
use Rattle.x86_forms.specs.declared.instr.Instr.{Instr}
use Rattle.x86_forms.specs.declared.instr.Instr.TheVariants.{CallRel, JmpRel, Jcc}
use Rattle.x86_forms.specs.Layout.{layout_of}
use Rattle.x86_forms.specs.Spelling.{spelling, low_bytes}
use Rattle.asm_text.specs.declared.parts.Kind.{Kind}
use Rattle.asm_text.specs.declared.parts.Kind.TheVariants as k
use Rattle.asm_text.specs.Lexical.{either, is_local}
use Rattle.asm_text.specs.Lines.{behind_field, parts_of}
use Rattle.asm_text.specs.Assembly.{Label, Placed, size_of, padding, local_target, with_target, way, field_at, blanked, local_code, code_of, byte_of, bytes_of, lacks}
use Rattle.assembler.specs.Sound.{HasField, NamesField, IsSoundKind}

-- the way to a target has four bytes whatever it is
pub same_length : (i : Instr) (z : ℤ) → length (spelling (with_target i z)) ≡ length (spelling i)
unfolding with_target low_bytes
same_length (CallRel p rel) z = simp length-append
same_length (JmpRel p rel) z = simp length-append
same_length (Jcc p op rel) z = simp length-append
same_length i z = refl

blanked_length : (code : List ℕ) (behind : ℕ) → behind + 4 ≤ length code → length (blanked code behind) ≡ length code
unfolding blanked
blanked_length code behind h =
    simp (length-append, length-drop) (omega (arith, length-take (field_at code behind) code, h))

local_length : (labels : List Label) (p : Placed) (i : Instr) → is_none (local_target labels p.line.name) ≡ false → length (local_code labels p i) ≡ length (spelling i)
local_length labels p i there = by (local_target labels p.line.name) there
  where
    by : (o : Option ℕ) → is_none o ≡ false → length (either o (λ target. spelling (with_target i (way p i target))) []) ≡ length (spelling i)
    by (Some target) h = same_length i (way p i target)
    by None h = absurd (true≢false h)

code_length : (labels : List Label) (p : Placed) (i : Instr) → NamesField p.line.name i → (is_local p.line.name && is_none (local_target labels p.line.name)) ≡ false → length (code_of labels p i) ≡ length (spelling i)
unfolding code_of
code_length labels p i names there = by (nat_eq (length p.line.name) 0) (is_local p.line.name) refl there
  where
    named : NamesField p.line.name i → nat_eq (length p.line.name) 0 ≡ false → HasField i
    named (inl none) some = absurd (true≢false (sym (ap (λ n. nat_eq n 0) none) ∙ some))
    named (inr h) some = h.1

    by : (a b : Bool) → nat_eq (length p.line.name) 0 ≡ a → (b && is_none (local_target labels p.line.name)) ≡ false
        → length (cond a (spelling i) (cond b (local_code labels p i) (blanked (spelling i) (behind_field (layout_of i))))) ≡ length (spelling i)
    by true b e h = refl
    by false true e h = local_length labels p i h
    by false false e h = blanked_length (spelling i) (behind_field (layout_of i)) (named names e)

-- as many bytes as the line's size
pub bytes_length : (labels : List Label) (p : Placed) (x : Kind) → IsSoundKind p.at.in_data p.line x → lacks labels p x ≡ false → length (bytes_of labels p x) ≡ size_of p.at x
unfolding bytes_of size_of lacks
bytes_length labels p (k.Code i) sound there = code_length labels p i sound.1.1.0 there
bytes_length labels p (k.Bytes n) sound there = length-map (parts_of p.line.text) byte_of ∙ sym sound.0
bytes_length labels p (k.Quad n) sound there = refl
bytes_length labels p k.Address sound there = refl
bytes_length labels p (k.Zero n) sound there = length-replicate n 0
bytes_length labels p (k.Align n) sound there = length-replicate (padding n p.at.stored) 0
bytes_length labels p x sound there = refl
