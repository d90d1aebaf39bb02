-- What a row shows of what is checked is there.
use Rattle.std.proofs.Common.{◌<◌, ℕ, List, [], ◌∷◌, map, length, get_or, subst, arith}
use Rattle.std.specs.List.{All}
use Rattle.std.proofs.lemmas.List.{length-map, get_or-map}
use Rattle.std.proofs.lemmas.List.Elements.{All-nil, All-cons, All-get_or}
use Rattle.c_types.specs.Types.{Types}
use Rattle.c_check_statements.specs.declared.state.Body.{Body}
use Rattle.c_check.specs.declared.checked.CheckedBody.{CheckedBody}
use Rattle.c_check.specs.Checked.{AreBodies}
use Rattle.source_rows.specs.Shown.{IsShown, AreShown}

pub at-place : {X Y : Type 0} (P : Y → Type 0) (f : X → Y) (xs : List X) (i : ℕ) (d : X) → i < length xs → All P (map f xs) → P (f (get_or xs i d))
at-place P f xs i d inside all =
    let within : i < length (map f xs) = omega (arith, length-map xs f) in
    subst P (get_or-map f xs i d (f d) inside) (All-get_or P (map f xs) i (f d) within all)

pub bodies-shown : (table : Types) (all : List CheckedBody) (bodies : List Body) → AreBodies table all bodies → AreShown table all
bodies-shown table [] bodies are = All-nil (IsShown table)
bodies-shown table (c ∷ others) [] are = absurd are
bodies-shown table (c ∷ others) (b ∷ more) are = All-cons (IsShown table) c others are.1.can_stand (bodies-shown table others more are.2)
