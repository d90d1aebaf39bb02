-- The instruction that stands in memory is the one that is fetched.
use Rattle.std.proofs.Common.{◌≡◌, ℕ, zero, suc, ◌+◌, ◌-◌, ◌<◌, ◌≤◌, min, List, ◌∷◌, length, take, refl, arith, ap, ◌∙◌}
use Rattle.mx_base.specs.Memory.{Bytes, list_at}
use Rattle.mx_base.proofs.MemoryLemmas.{list_at-same, length-list_at}
use Rattle.x86_forms.specs.declared.instr.Instr.{Instr}
use Rattle.x86_forms.specs.Spelling.{spelling}
use Rattle.x86_forms.proofs.ShortCode.{spelling-short}
use Rattle.obj_file.specs.Machine.{reading_at, fetched_size}
use Rattle.obj_file.specs.Stored.{Stored}
use Rattle.obj_file.proofs.StoredBytes.{bytes-list_at}
use Rattle.code_laws.specs.Views.{View}
use Rattle.code_laws.specs.Seen.{Setting, IsSetting, machine_of, Seen, state_of}
use Rattle.code_laws.specs.Laid.{Stands}
use Rattle.code_laws.proofs.Events.{Next, inside_code}

take-list_at : (n k : ℕ) (m : Bytes) (a : ℕ) → k ≤ n → take k (list_at n m a) ≡ list_at k m a
unfolding list_at
take-list_at zero zero m a h = refl
take-list_at zero (suc k) m a h = absurd (omega arith)
take-list_at (suc n) zero m a h = refl
take-list_at (suc n) (suc k) m a h = ap (λ (l : List ℕ). m a ∷ l) (take-list_at n k m (a + 1) (omega arith))

fetched : (a : ℕ) → 0x0100_0000 ≤ a → a < 0x1100_0000 → fetched_size a ≡ min (0x1100_0000 - a) 15
fetched a low high = rw (inside_code a low high) refl

module _ (S : Setting) (ok : IsSetting S) where
  pub next_of : (v : View) (y : Stored) (n : ℕ) (i : Instr) (next : ℕ) → Seen S v y → Stands S.code v.processor.rip i next → Next (machine_of S) refl (state_of v y n) i next
  unfolding reading_at
  next_of v y n i next seen st =
      let short = spelling-short i st.valid in
      let at = v.processor.rip in
      let size = length (spelling i) in
      let some = short.some in
      let most = short.most in
      let end = st.high in
      let is = st.is_next in
      let below : at < 0x1100_0000 = omega arith in
      let f = fetched at st.low below in
      let within : size ≤ fetched_size at = rw f (omega arith) in
      let close : fetched_size at ≤ 0x1100_0000 - at = rw f (omega arith) in
      let bytes = list_at (fetched_size at) y.bytes at in
      let long : size ≤ length bytes = rw (length-list_at (fetched_size at) y.bytes at) within in
      let same : take size bytes ≡ spelling i =
      take-list_at (fetched_size at) size y.bytes at within
      ∙ list_at-same size y.bytes S.code at (λ x from to. seen.memory.code x (omega (arith, st.low)) (omega arith))
      ∙ st.bytes in
      record {
        size = size;
        low = st.low;
        high = below;
        reads = (ok.reader.whole bytes i size (bytes-list_at (fetched_size at) y.bytes at seen.memory.each_byte)).1 (long, record { valid = st.valid; bytes = same });
        is_next = omega arith;
      }
