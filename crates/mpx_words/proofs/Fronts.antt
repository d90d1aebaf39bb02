-- Reading a file in chunks.
use Rattle.std.proofs.Common.{◌≡◌, ℕ, ◌+◌, ◌<◌, ◌≤◌, Option, Some, Ok, List, [], ◌++◌, length, take, drop, refl, sym, ap, ◌∙◌, subst, arith}
use Rattle.std.proofs.Math.Seq.{take-add}
use Rattle.std.proofs.lemmas.List.{take_all, length-take-le, length-append, length-drop}
use Rattle.mx_base.specs.declared.externals.Failed.{Failed}
use Rattle.mx_base.specs.Outside.{FileFacts, Untold, Absent, Holds, Reads}
use Rattle.mpx_words.specs.Sources.{IsReadFrom, IsFrontOf}

take_ended : (n m : ℕ) (xs : List ℕ) → drop n xs ≡ [] → n ≤ m → take n xs ≡ take m xs
take_ended n m xs e le =
    let short : length xs ≤ n = omega (arith, length-drop n xs, ap length e) in
    take_all n xs short ∙ sym (take_all m xs (omega arith))

ended_at : (most : ℕ) (facts : FileFacts) (at : ℕ) (buf bytes : List ℕ) → IsReadFrom facts bytes → at ≡ length bytes → length bytes ≤ most → Reads {E = Failed} facts at buf (Ok (Some 0)) → 0 < length buf → IsFrontOf most facts bytes
ended_at most Untold at buf bytes r e le h pos = le
ended_at most Absent at buf bytes r e le h pos = h.1
ended_at most (Holds held) at buf bytes r e le h pos =
    let ended : drop (length bytes) held ≡ [] = subst (λ (n : ℕ). drop n held ≡ []) e (h.1.ends refl pos) in
    r ∙ take_ended (length bytes) most held ended le

more_at : (facts : FileFacts) (at n : ℕ) (buf bytes : List ℕ) → IsReadFrom facts bytes → at ≡ length bytes → Reads {E = Failed} facts at buf (Ok (Some n)) → IsReadFrom facts (bytes ++ take n buf)
more_at Untold at n buf bytes r e h = tt
more_at Absent at n buf bytes r e h = absurd h.1
more_at (Holds held) at n buf bytes r e h =
    let more : take n buf ≡ take n (drop (length bytes) held) = subst (λ (m : ℕ). take n buf ≡ take n (drop m held)) e (h.1.same) in
    let long : length (bytes ++ take n buf) ≡ length bytes + n = omega (arith, length-append bytes (take n buf), length-take-le n buf h.0) in
    rw long (ap (λ (t : List ℕ). t ++ take n buf) r ∙ (ap (λ (t : List ℕ). take (length bytes) held ++ t) more ∙ sym (take-add (length bytes) n held)))

answered : (was facts : FileFacts) (at k : ℕ) (o : Option ℕ) (buf : List ℕ) → was ≡ facts → o ≡ Some k → Reads {E = Failed} was at buf (Ok o) → Reads {E = Failed} facts at buf (Ok (Some k))
answered was facts at k o buf e is h = subst (λ (f : FileFacts). Reads {E = Failed} f at buf (Ok (Some k))) e (subst (λ (p : Option ℕ). Reads {E = Failed} was at buf (Ok p)) is h)

-- at the end of a file, what was read of it is its front
pub front_ended : (most : ℕ) (was facts : FileFacts) (at k : ℕ) (o : Option ℕ) (buf bytes : List ℕ) → was ≡ facts → o ≡ Some k → k ≡ 0 → Reads {E = Failed} was at buf (Ok o) → IsReadFrom facts bytes → at ≡ length bytes → length bytes ≤ most → 0 < length buf → IsFrontOf most facts bytes
front_ended most was facts at k o buf bytes e is z h r eq le pos =
    ended_at most facts at buf bytes r eq le (subst (λ (n : ℕ). Reads {E = Failed} facts at buf (Ok (Some n))) z (answered was facts at k o buf e is h)) pos

-- one chunk more
pub front_more : (was facts : FileFacts) (at k : ℕ) (o : Option ℕ) (buf bytes : List ℕ) → was ≡ facts → o ≡ Some k → Reads {E = Failed} was at buf (Ok o) → IsReadFrom facts bytes → at ≡ length bytes → IsReadFrom facts (bytes ++ take k buf)
front_more was facts at k o buf bytes e is h r eq = more_at facts at k buf bytes r eq (answered was facts at k o buf e is h)

-- no chunk is longer than the buffer
pub chunk_fits : (facts : FileFacts) (at k : ℕ) (o : Option ℕ) (buf : List ℕ) → o ≡ Some k → Reads {E = Failed} facts at buf (Ok o) → k ≤ length buf
chunk_fits facts at k o buf is h = (answered facts facts at k o buf refl is h).0

-- enough of a file
pub front_full : (most : ℕ) (facts : FileFacts) (bytes : List ℕ) → 0 < most → IsReadFrom facts bytes → length bytes ≡ most → IsFrontOf most facts bytes
front_full most Untold bytes some r full = omega arith
front_full most Absent bytes some r full = absurd (omega (arith, ap length r))
front_full most (Holds held) bytes some r full = subst (λ (n : ℕ). bytes ≡ take n held) full r
