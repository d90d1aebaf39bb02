-- What events keep, whatever the memory is.
use Rattle.std.specs.Prelude.{◌≡◌, ℕ, Ok, Err}
use Rattle.mx_base.specs.declared.limits.Bounds.{Bounds}
use Rattle.mx_base.specs.Services.{Guest, Answers}
use Rattle.obj_file.specs.Machine.{Refusal, Invalid, Ground, State, Event, Goes, Stops, asked}
use Rattle.obj_file.specs.Runs.{End, Out, Stopped}

-- the memory refuses a request since this directory entry names no table
pub data LacksTable {X : Type 0} (g : Ground X) (x : X) (entry_at : ℕ) : Type 0 where
  ToRead : (at size : ℕ) → (is : g.store.read x at size ≡ Err (Invalid entry_at)) → LacksTable g x entry_at
  ToWrite : (at size value : ℕ) → (is : g.store.write x at size value ≡ Err (Invalid entry_at)) → LacksTable g x entry_at
  ToLoad : (at value : ℕ) → (is : g.store.load x at value ≡ Err (Invalid entry_at)) → LacksTable g x entry_at
  ToKeep : (at value : ℕ) → (b : Bounds) → (is : g.store.keep x at value b ≡ Err (Invalid entry_at)) → LacksTable g x entry_at

-- a relation between memories that each request keeps, and each serving for a request
pub record KeepsByRequests {X : Type 0} (g : Ground X) (R : X → X → Type 0) : Type 0 where
  pub same : (x : X) → R x x
  pub join : (x y z : X) → R x y → R y z → R x z
  pub write : (x y : X) (at size value : ℕ) → g.store.write x at size value ≡ Ok y → R x y
  pub load : (x : X) (at value : ℕ) (p : Bounds × X) → g.store.load x at value ≡ Ok p → R x p.1
  pub keep : (x y : X) (at value : ℕ) (b : Bounds) → g.store.keep x at value b ≡ Ok y → R x y
  pub serve : (x y : X) (entry_at : ℕ) → LacksTable g x entry_at → g.serve x entry_at ≡ Ok y → R x y

-- and one between what services change
pub record KeepsByServices {X : Type 0} (g : Ground X) (Q : Guest → Guest → Type 0) : Type 0 where
  pub same : (h : Guest) → Q h h
  pub served : (s : State X) (word : ℕ) (h : Guest) → asked g s ≡ Answers word h → Q s.guest h

-- a claim on the state that an event leaves
abbrev pub EventLeaves : {X : Type 0} → (State X → Type 0) → Event X → Type 0
EventLeaves P (Goes turn t) = P t
EventLeaves P (Stops turn why t) = P t

-- and on the last state of a run
abbrev pub EndLeaves : {X : Type 0} → (State X → Type 0) → End X → Type 0
EndLeaves P (Out t) = P t
EndLeaves P (Stopped why t) = P t
