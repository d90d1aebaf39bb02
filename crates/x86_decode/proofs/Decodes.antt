-- What each answer of the automaton says of the bytes, and when it comes.
use Rattle.std.proofs.Common.{◌≡◌, ◌≤◌, ◌<◌, ◌+◌, ℕ, suc, arith, refl, List, [], ◌∷◌, ◌++◌, length, get_or, take, drop, sym, subst, ap, ◌∙◌, append_assoc, length-append, zero-add}
use Rattle.std.specs.Prelude.{Result, Ok, Err}
use Rattle.std.proofs.lemmas.List.{append-nil, take-append-drop}
use Rattle.std.proofs.lemmas.List.Elements.{All-cons, All-nil, All-drop}
use Rattle.std.proofs.Math.Seq.{drop-append_seam}
use Rattle.x86_forms.specs.declared.instr.Instr.{Instr}
use Rattle.x86_forms.specs.Spelling.{Spells}
use Rattle.x86_forms.proofs.ShortCode.{spelling-short}
use Rattle.x86_decode.specs.declared.reader.Undecoded.{Undecoded}
use Rattle.x86_decode.specs.declared.reader.Undecoded.TheVariants.{Undefined, Short}
use Rattle.x86_decode.specs.declared.states.State.{State}
use Rattle.x86_decode.specs.declared.states.State.TheVariants.{Start}
use Rattle.x86_decode.specs.declared.states.Next.{Next}
use Rattle.x86_decode.specs.declared.states.Next.TheVariants.{Dead, Go, End}
use Rattle.x86_decode.specs.Reading.{BeginsWith, BeginsNothing, IsCutShort}
use Rattle.x86_decode.specs.Run.{run, outcome, least_of}
use Rattle.x86_decode.specs.Steps.{step_of}
use Rattle.x86_decode.proofs.Again.{Spells-feed, BeginsWith-run, one_form}
use Rattle.x86_decode.proofs.Feed.{feed, feed-append, feed-dead}
use Rattle.x86_decode.proofs.Found.{reached-go, spells-end}
use Rattle.x86_decode.proofs.Lower.{head_byte, tail_bytes, least-low}
use Rattle.x86_decode.proofs.Reached.{AreBytes, Reached}
use Rattle.x86_decode.proofs.Soonest.{completes, least-pos}

-- an instruction is read: some bytes more spell it
pub record Read (read xs : List ℕ) (n : ℕ) (i : Instr) (m : ℕ) : Type 0 where
  pub more : ℕ
  pub within : more ≤ length xs
  pub size : m ≡ n + more
  pub spells : Spells (read ++ take more xs) i

read_next : (read xs : List ℕ) (s : State) (x n m : ℕ) (i : Instr) (next : Next) → Reached s read → x < 256 → step_of s x ≡ next
    → ((t : State) → Reached t (read ++ (x ∷ [])) → run xs t (suc n) ≡ Ok (i, m) → Read (read ++ (x ∷ [])) xs (suc n) i m)
    → outcome (λ t. run xs t (suc n)) (suc n) next ≡ Ok (i, m) → Read read (x ∷ xs) n i m
read_next read xs s x n m i Dead k h e ih r = absurd (cc)
read_next read xs s x n m i (End j) k h e ih r =
    let p : ◌≡◌ {A = Instr × ℕ} (j, suc n) (i, m) = cc in let ei : j ≡ i = ap (λ q. q.0) p in let em : suc n ≡ m = ap (λ q. q.1) p in
    record { more = 1; within = omega arith; size = omega arith; spells = subst (λ i. Spells (read ++ (x ∷ [])) i) ei (spells-end s j x read k h e) }
read_next read xs s x n m i (Go t) k h e ih r =
    let q = ih t (reached-go s t x read k h e) r in
    record {
      more = suc q.more;
      within = let l = q.within in omega arith;
      size = let z = q.size in omega arith;
      spells = subst (λ ys. Spells ys i) (append_assoc read (x ∷ []) (take q.more xs)) q.spells;
    }

pub run-ok : (xs : List ℕ) (s : State) (read : List ℕ) (n m : ℕ) (i : Instr) → Reached s read → AreBytes xs → run xs s n ≡ Ok (i, m) → Read read xs n i m
unfolding run
run-ok [] s read n m i k a e = absurd (cc)
run-ok (x ∷ xs) s read n m i k a e =
    read_next read xs s x n m i (step_of s x) k (head_byte x xs a) refl (λ t r f. run-ok xs t (read ++ (x ∷ [])) (suc n) m i r (tail_bytes x xs a) f) e

-- nothing is read: the automaton is dead
dead_next : (xs : List ℕ) (n : ℕ) (next : Next) → ((t : State) → run xs t (suc n) ≡ Err Undefined → feed xs (Go t) ≡ Dead) → outcome (λ t. run xs t (suc n)) (suc n) next ≡ Err Undefined → feed xs next ≡ Dead
dead_next xs n Dead ih e = feed-dead xs
dead_next xs n (End i) ih e = absurd (cc)
dead_next xs n (Go t) ih e = ih t e

pub run-undefined : (xs : List ℕ) (s : State) (n : ℕ) → run xs s n ≡ Err Undefined → feed xs (Go s) ≡ Dead
unfolding run
run-undefined [] s n e = absurd (cc)
run-undefined (x ∷ xs) s n e = dead_next xs n (step_of s x) (λ t f. run-undefined xs t (suc n) f) e

-- the bytes end within an instruction
pub record Ended (read xs : List ℕ) (s : State) (n m : ℕ) : Type 0 where
  pub state : State
  pub fed : feed xs (Go s) ≡ Go state
  pub reached : Reached state (read ++ xs)
  pub size : m ≡ n + length xs + least_of state

ended_next : (read xs : List ℕ) (s : State) (x n m : ℕ) (next : Next) → Reached s read → x < 256 → step_of s x ≡ next
    → ((t : State) → Reached t (read ++ (x ∷ [])) → run xs t (suc n) ≡ Err (Short m) → Ended (read ++ (x ∷ [])) xs t (suc n) m)
    → outcome (λ t. run xs t (suc n)) (suc n) next ≡ Err (Short m) → Ended read (x ∷ xs) s n m
ended_next read xs s x n m Dead k h e ih r = absurd (cc)
ended_next read xs s x n m (End j) k h e ih r = absurd (cc)
ended_next read xs s x n m (Go t) k h e ih r =
    let q = ih t (reached-go s t x read k h e) r in
    record {
      state = q.state;
      fed = ap (λ y. feed xs y) e ∙ q.fed;
      reached = subst (λ ys. Reached q.state ys) (append_assoc read (x ∷ []) xs) q.reached;
      size = let z = q.size in omega arith;
    }

pub run-short : (xs : List ℕ) (s : State) (read : List ℕ) (n m : ℕ) → Reached s read → AreBytes xs → run xs s n ≡ Err (Short m) → Ended read xs s n m
unfolding run
run-short [] s read n m k a e =
    let z : n + least_of s ≡ m = cc in
    record { state = s; fed = refl; reached = subst (λ ys. Reached s ys) (sym (append-nil read)) k; size = omega arith }
run-short (x ∷ xs) s read n m k a e =
    ended_next read xs s x n m (step_of s x) k (head_byte x xs a) refl (λ t r f. run-short xs t (read ++ (x ∷ [])) (suc n) m r (tail_bytes x xs a) f) e

-- bytes are below 256
pub bytes_all : (xs : List ℕ) → ((i : ℕ) → get_or xs i 0 < 256) → AreBytes xs
bytes_all [] h = All-nil (λ b. b < 256)
bytes_all (x ∷ xs) h = All-cons (λ b. b < 256) x xs (h 0) (bytes_all xs (λ i. h (suc i)))

rest_bytes : (xs rest : List ℕ) (i : Instr) → Spells (xs ++ rest) i → AreBytes rest
rest_bytes xs rest i s =
    let w = spelling-short i s.valid in
    let a : AreBytes (xs ++ rest) = subst (λ ys. AreBytes ys) (sym s.bytes) w.bytes in
    subst (λ ys. AreBytes ys) (drop-append_seam xs rest) (All-drop (λ b. b < 256) (length xs) (xs ++ rest) a)

-- from the answers to what they say
pub ok-says : (bytes : List ℕ) (i : Instr) (n : ℕ) → AreBytes bytes → run bytes Start 0 ≡ Ok (i, n) → BeginsWith bytes i n
ok-says bytes i n a e =
    let q = run-ok bytes Start [] 0 n i refl a e in
    let z : n ≡ q.more = q.size ∙ zero-add q.more in
    record { within = let w = q.within in omega arith; spells = subst (λ m. Spells (take m bytes) i) (sym z) q.spells }

no_more : (bytes rest : List ℕ) (i : Instr) → feed bytes (Go Start) ≡ Dead → Spells (bytes ++ rest) i → ⊥
no_more bytes rest i d s =
    let e : Dead ≡ End i = sym (ap (λ y. feed rest y) d ∙ feed-dead rest) ∙ sym (feed-append bytes rest (Go Start)) ∙ Spells-feed (bytes ++ rest) i s in absurd (cc)

pub undefined-says : (bytes : List ℕ) → run bytes Start 0 ≡ Err Undefined → BeginsNothing bytes
undefined-says bytes e = record {
  no_front = λ i n b. ok_undefined i n (sym (BeginsWith-run bytes i n b) ∙ e);
  no_whole = λ i rest s. no_more bytes rest i (run-undefined bytes Start 0 e) s;
}
  where
    ok_undefined : (i : Instr) (n : ℕ) → ◌≡◌ {A = Result (Instr × ℕ) Undecoded} (Ok (i, n)) (Err Undefined) → ⊥
    ok_undefined i n e = absurd (cc)

pub short-says : (bytes : List ℕ) (m : ℕ) → AreBytes bytes → run bytes Start 0 ≡ Err (Short m) → IsCutShort bytes m
short-says bytes m a e =
    let q = run-short bytes Start [] 0 m refl a e in
    let z : m ≡ length bytes + least_of q.state = q.size ∙ ap (λ n. n + least_of q.state) (zero-add (length bytes)) in
    let c = completes (least_of q.state) q.state bytes refl q.reached in
    record {
      proper = omega (arith, least-pos q.state bytes q.reached);
      shortest = record { instr = c.instr; rest = c.rest; spells = c.spells; size = let l = c.length_is in omega (arith, length-append bytes c.rest) };
      least = λ i rest s.
          let f : feed rest (Go q.state) ≡ End i = ap (λ y. feed rest y) (sym q.fed) ∙ sym (feed-append bytes rest (Go Start)) ∙ Spells-feed (bytes ++ rest) i s in
          omega (arith, length-append bytes rest, least-low rest q.state bytes i q.reached (rest_bytes bytes rest i s) f);
    }

-- and back
nothing_case : (bytes : List ℕ) (r : Result (Instr × ℕ) Undecoded) → AreBytes bytes → BeginsNothing bytes → run bytes Start 0 ≡ r → r ≡ Err Undefined
nothing_case bytes (Ok x) a k e = absurd (k.no_front x.0 x.1 (ok-says bytes x.0 x.1 a e))
nothing_case bytes (Err Undefined) a k e = refl
nothing_case bytes (Err (Short m)) a k e = let c = (short-says bytes m a e).shortest in absurd (k.no_whole c.instr c.rest c.spells)

pub says-undefined : (bytes : List ℕ) → AreBytes bytes → BeginsNothing bytes → run bytes Start 0 ≡ Err Undefined
says-undefined bytes a k = nothing_case bytes (run bytes Start 0) a k refl

-- bytes that an instruction begins are no proper prefix of one
not_both : (bytes rest : List ℕ) (i j : Instr) (n : ℕ) → BeginsWith bytes i n → Spells (bytes ++ rest) j → rest ≡ []
not_both bytes rest i j n b s =
    let e : take n bytes ++ (drop n bytes ++ rest) ≡ bytes ++ rest = sym (append_assoc (take n bytes) (drop n bytes) rest) ∙ ap (λ xs. xs ++ rest) (take-append-drop n bytes) in
    let k = one_form (take n bytes) (drop n bytes ++ rest) i j b.spells (subst (λ xs. Spells xs j) (sym e) s) in
    right_nil (drop n bytes) rest k.0
  where
    right_nil : (xs ys : List ℕ) → xs ++ ys ≡ [] → ys ≡ []
    right_nil [] ys e = e
    right_nil (x ∷ xs) ys e = absurd (cc)

cut_case : (bytes : List ℕ) (need : ℕ) (r : Result (Instr × ℕ) Undecoded) → AreBytes bytes → IsCutShort bytes need → run bytes Start 0 ≡ r → r ≡ Err (Short need)
cut_case bytes need (Ok x) a k e =
    let c = k.shortest in
    let z : c.rest ≡ [] = not_both bytes c.rest x.0 c.instr x.1 (ok-says bytes x.0 x.1 a e) c.spells in
    let l : length (bytes ++ c.rest) ≡ length bytes = ap (λ xs. length (bytes ++ xs)) z ∙ ap length (append-nil bytes) in
    absurd (omega (arith, k.proper, c.size, l))
cut_case bytes need (Err Undefined) a k e = let c = k.shortest in absurd (no_more bytes c.rest c.instr (run-undefined bytes Start 0 e) c.spells)
cut_case bytes need (Err (Short m)) a k e =
    let q = short-says bytes m a e in let c = k.shortest in let d = q.shortest in
    let u : m ≤ need = le_by (q.least c.instr c.rest c.spells) c.size in
    let v : need ≤ m = le_by (k.least d.instr d.rest d.spells) d.size in
    ap (λ n. Err (Short n)) (omega arith)
  where
    le_by : {a b c : ℕ} → a ≤ b → b ≡ c → a ≤ c
    le_by h e = omega arith

pub says-short : (bytes : List ℕ) (need : ℕ) → AreBytes bytes → IsCutShort bytes need → run bytes Start 0 ≡ Err (Short need)
says-short bytes need a k = cut_case bytes need (run bytes Start 0) a k refl
