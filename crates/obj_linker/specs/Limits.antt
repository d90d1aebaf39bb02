-- How large the numbers of a link are.
use Rattle.std.specs.Prelude.{◌^◌, ◌<◌, ◌≤◌, length}
use Rattle.std.specs.List.{All}
use Rattle.obj_file.specs.declared.object.Object.{Object}
use Rattle.obj_linker.specs.declared.parts.Spot.{Spot}
use Rattle.obj_linker.specs.declared.parts.Ends.{Ends}
use Rattle.obj_linker.specs.declared.plan.Plan.{Plan}

-- parts of at most 2^28 bytes, and at most 2^20 fix-ups
pub record HasSmallParts (o : Object) : Type 0 where
  pub code : length o.code ≤ 2 ^ 28
  pub stored : length o.stored ≤ 2 ^ 28
  pub fixes : length o.fixes ≤ 2 ^ 20

pub record AreLow (ends : Ends) : Type 0 where
  pub code : ends.code < 2 ^ 62
  pub legacy : ends.legacy < 2 ^ 62
  pub stored : ends.stored < 2 ^ 62

pub record IsLowSpot (s : Spot) : Type 0 where
  pub code : s.code < 2 ^ 32
  pub stored : s.stored < 2 ^ 32

-- addresses below 2^32, and numbers of functions and stubs that have gates there
pub record IsLow (plan : Plan) : Type 0 where
  pub spots : All IsLowSpot plan.spots
  pub functions : length plan.functions ≤ 65_536
  pub stubs : length plan.stubs < 2 ^ 22
  pub stubs_at : plan.stubs_at < 2 ^ 32
