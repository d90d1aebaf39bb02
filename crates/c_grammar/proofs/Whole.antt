-- Reading a source to the end of its tokens.
use Rattle.std.proofs.Common.{◌≡◌, ℕ, List, [], ◌∷◌, ◌++◌, append_assoc, append-nil, Ok, Err, refl, sym, subst, inl, inr}
use Rattle.mx_base.specs.declared.places.Place.{Place}
use Rattle.c_tree.specs.declared.tree.Item.{Item}
use Rattle.c_grammar.specs.Lexemes.{Lexeme, same}
use Rattle.c_grammar.specs.Rules as n
use Rattle.c_grammar.specs.Rules.{call}
use Rattle.c_grammar.specs.Grammar.{Reads}
use Rattle.c_grammar.specs.Reading.{Out, unfit, parse, Allow}
use Rattle.c_grammar.specs.Program.{IsSource, Fails, FirstBad, place_at}
use Rattle.c_grammar.proofs.Good.{Good, Parsed, Stuck, Quiet, Calm}
use Rattle.c_grammar.proofs.Steps.{good_parse}

pub quiet_end : Quiet (call n.Source) []
unfolding same
quiet_end = refl

pub calm_end : Calm []
unfolding same
calm_end = refl

pub good_at : (L : Allow) (ts : List Lexeme) (o : Out (List Item)) → parse L n.Source 0 ts ≡ o → Good (call n.Source) ts o
good_at L ts o e = subst (Good (call n.Source) ts) e (good_parse L n.Source 0 ts)

-- what was read to the end is the source's one tree
pub read_all : (L : Allow) (ts : List Lexeme) (v : List Item) (d : ℕ) → parse L n.Source 0 ts ≡ Ok (v, [], d) → IsSource ts v
read_all L ts v d e =
    let x : Parsed (call n.Source) ts v [] = good_at L ts (Ok (v, [], d)) e in
    subst (λ z. Reads n.Source z v []) (sym x.splits) (x.reads [] (inl refl))

pub read_only : (L : Allow) (ts : List Lexeme) (v tree : List Item) (d : ℕ) → parse L n.Source 0 ts ≡ Ok (v, [], d) → IsSource ts tree → v ≡ tree
read_only L ts v tree d e p =
    let x : Parsed (call n.Source) ts v [] = good_at L ts (Ok (v, [], d)) e in
    sym (x.only [] tree [] refl (subst (λ z. Reads n.Source z tree []) x.splits p) quiet_end).0

pub one_more : (front more : List Lexeme) (t : Lexeme) → (front ++ t ∷ []) ++ more ≡ front ++ t ∷ more
one_more front more t = append_assoc front (t ∷ []) more

never_nil : {B : Type 0} (t : Lexeme) (more : List Lexeme) → [] ≡ t ∷ more → B
never_nil t more h = cc

-- a token is left over
pub left_over : (L : Allow) (ts : List Lexeme) (v : List Item) (t : Lexeme) (rest : List Lexeme) (d : ℕ) (end : Place) → parse L n.Source 0 ts ≡ Ok (v, t ∷ rest, d) → FirstBad ts end t.place
left_over L ts v t rest d end e =
    let x : Parsed (call n.Source) ts v (t ∷ rest) = good_at L ts (Ok (v, t ∷ rest, d)) e in
    record {
      front = x.front;
      at = t ∷ rest;
      splits = x.splits;
      begins = record { more = []; items = v; is = x.reads [] (inr calm_end) };
      fails = λ b. never_nil t b.more (x.only (t ∷ b.more) b.items [] refl (subst (λ z. Reads n.Source z b.items []) (one_more x.front b.more t) b.is) quiet_end).1;
      here = refl;
    }

fails_at : (ts at : List Lexeme) (x : Stuck (call n.Source) ts at) → Fails x.front at
fails_at ts [] x = λ tree p. x.never [] tree [] refl (subst (λ z. Reads n.Source z tree []) (sym (append-nil x.front)) p) quiet_end
fails_at ts (t ∷ rest) x = λ b. x.never (t ∷ b.more) b.items [] refl (subst (λ z. Reads n.Source z b.items []) (one_more x.front b.more t) b.is) quiet_end

-- a token does not fit
pub stuck_at : (L : Allow) (ts at : List Lexeme) (end : Place) → parse L n.Source 0 ts ≡ Err (unfit at) → FirstBad ts end (place_at at end)
stuck_at L ts at end e =
    let x : Stuck (call n.Source) ts at = good_at L ts (Err (unfit at)) e in
    record {
      front = x.front;
      at = at;
      splits = x.splits;
      begins = record { more = x.word ++ []; items = x.begun.value; is = x.begun.reads [] calm_end };
      fails = fails_at ts at x;
      here = refl;
    }

pub not_stuck : (L : Allow) (ts at : List Lexeme) (tree : List Item) → parse L n.Source 0 ts ≡ Err (unfit at) → IsSource ts tree → ⊥
not_stuck L ts at tree e p =
    let x : Stuck (call n.Source) ts at = good_at L ts (Err (unfit at)) e in
    x.never at tree [] refl (subst (λ z. Reads n.Source z tree []) x.splits p) quiet_end

pub not_left : (L : Allow) (ts : List Lexeme) (v tree : List Item) (t : Lexeme) (rest : List Lexeme) (d : ℕ) → parse L n.Source 0 ts ≡ Ok (v, t ∷ rest, d) → IsSource ts tree → ⊥
not_left L ts v tree t rest d e p =
    let x : Parsed (call n.Source) ts v (t ∷ rest) = good_at L ts (Ok (v, t ∷ rest, d)) e in
    never_nil t rest (x.only (t ∷ rest) tree [] refl (subst (λ z. Reads n.Source z tree []) x.splits p) quiet_end).1
