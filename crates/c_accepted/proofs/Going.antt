-- Notes that grow, and an elaboration that goes on with them.
use Rattle.std.proofs.Common.{◌≡◌, ℕ, ◌+◌, refl, sym, ap, ◌∙◌, List, [], ◌∷◌, ◌++◌, length, append_assoc, length-append, arith}
use Rattle.std.specs.Prelude.{Option, None, Some, slice_index_or}
use Rattle.c_types.specs.Types.{CType, Void}
use Rattle.c_check_rules.specs.declared.predeclared.Bind.{Bind}
use Rattle.c_check_typing.specs.declared.typed.Notes.{Notes}
use Rattle.c_check_typing.specs.Notes.{unchanged}
use Rattle.bounds_plan.specs.laws.Roots.{Begins}
use Rattle.bounds_plan.specs.elaboration.Source.{Meanings, Reached, Around, past_kind, past_name}
use Rattle.c_accepted.specs.Alike.{meanings_of, IsAt, Front}

-- ---- lists

pub nothing_more : {X : Type 0} (xs : List X) → xs ++ [] ≡ xs
nothing_more [] = refl
nothing_more (x ∷ xs) = ap (λ ys. x ∷ ys) (nothing_more xs)

pub begins_itself : {X : Type 0} (xs : List X) → Begins xs xs
begins_itself xs = record { more = []; is = sym (nothing_more xs) }

pub begins_with : {X : Type 0} (xs ys : List X) → Begins xs (xs ++ ys)
begins_with xs ys = record { more = ys; is = refl }

pub begins_then : {X : Type 0} (xs ys zs : List X) → Begins xs ys → Begins ys zs → Begins xs zs
begins_then xs ys zs h k = record { more = h.more ++ k.more; is = k.is ∙ (ap (λ l. l ++ k.more) h.is ∙ append_assoc xs h.more k.more) }

got_last : {X : Type 0} (xs : List X) (x : X) (more : List X) (other : X) → slice_index_or ((xs ++ (x ∷ [])) ++ more) (length xs) other ≡ x
got_last [] x more other = refl
got_last (y ∷ xs) x more other = got_last xs x more other

pub got_behind : {X : Type 0} (xs ys : List X) (x other : X) (n : ℕ) → Begins (xs ++ (x ∷ [])) ys → n ≡ length xs → slice_index_or ys n other ≡ x
got_behind xs ys x other n h e = ap (λ l. slice_index_or l n other) h.is ∙ (ap (λ k. slice_index_or ((xs ++ (x ∷ [])) ++ h.more) k other) e ∙ got_last xs x h.more other)

pub one_longer : {X : Type 0} (xs : List X) (x : X) (n : ℕ) → n ≡ length xs → n + 1 ≡ length (xs ++ (x ∷ []))
one_longer xs x n e = omega (arith, length-append xs (x ∷ []))

-- ---- notes

pub front_itself : (m : Meanings) → Front m m
front_itself m = record { kinds = begins_itself m.kinds; binds = begins_itself m.binds; declared = begins_itself m.declared }

pub front_then : (m n w : Meanings) → Front m n → Front n w → Front m w
front_then m n w h k = record { kinds = begins_then m.kinds n.kinds w.kinds h.kinds k.kinds; binds = begins_then m.binds n.binds w.binds h.binds k.binds; declared = begins_then m.declared n.declared w.declared h.declared k.declared }

-- one type more, and the meaning of a name
abbrev pub bound : Option Bind → List Bind → List Bind
bound None binds = binds
bound (Some bind) binds = binds ++ (bind ∷ [])

abbrev pub added : CType → Option Bind → Meanings → Meanings
added kind bind m = record { kinds = m.kinds ++ (kind ∷ []); binds = bound bind m.binds; declared = m.declared }

abbrev pub passed : Option Bind → Reached → Reached
passed None r = past_kind r
passed (Some bind) r = past_name (past_kind r)

begins_bound : (bind : Option Bind) (binds : List Bind) → Begins binds (bound bind binds)
begins_bound None binds = begins_itself binds
begins_bound (Some bind) binds = begins_with binds (bind ∷ [])

pub front_added : (kind : CType) (bind : Option Bind) (m : Meanings) → Front m (added kind bind m)
front_added kind bind m = record { kinds = begins_with m.kinds (kind ∷ []); binds = begins_bound bind m.binds; declared = begins_itself m.declared }

pub past_added : (kind : CType) (bind : Option Bind) (m : Meanings) (r : Reached) → IsAt r m → IsAt (passed bind r) (added kind bind m)
past_added kind None m r h = record { kind = one_longer m.kinds kind r.kind h.kind; name = h.name; declaration = h.declaration }
past_added kind (Some bind) m r h = record { kind = one_longer m.kinds kind r.kind h.kind; name = one_longer m.binds bind r.name h.name; declaration = h.declaration }

pub kind_stands : (kind : CType) (bind : Option Bind) (m w : Meanings) (r : Reached) → Front (added kind bind m) w → IsAt r m → slice_index_or w.kinds r.kind Void ≡ kind
kind_stands kind bind m w r f h = got_behind m.kinds w.kinds kind Void r.kind f.kinds h.kind

-- ---- going on

-- notes grow, and the elaboration goes on as far as they do; nothing is declared
pub record Goes (after : Notes → Notes) (reach : Around → Reached → Reached) : Type 0 where
  pub on : (n : Notes) → Front (meanings_of n) (meanings_of (after n))
  pub still : (n : Notes) → (after n).declared ≡ n.declared
  pub at : (n : Notes) (around : Around) (r : Reached) → Front (meanings_of (after n)) around.meanings → IsAt r (meanings_of n) → IsAt (reach around r) (meanings_of (after n))

pub goes_nowhere : Goes unchanged (λ around r. r)
goes_nowhere = record { on = λ n. front_itself (meanings_of n); still = λ n. refl; at = λ n around r f h. h }

pub goes_then : (f g : Notes → Notes) (p q : Around → Reached → Reached) → Goes f p → Goes g q → Goes (λ n. g (f n)) (λ around r. q around (p around r))
goes_then f g p q h k = record {
  on = λ n. front_then (meanings_of n) (meanings_of (f n)) (meanings_of (g (f n))) (h.on n) (k.on (f n));
  still = λ n. k.still (f n) ∙ h.still n;
  at = λ n around r w a. k.at (f n) around (p around r) w (h.at n around r (front_then (meanings_of (f n)) (meanings_of (g (f n))) around.meanings (k.on (f n)) w) a);
}
