use Rattle.mx_build.proofs.source.accept.Goals as goal

-- a text without a tree is refused whatever room there is
pub returns-in-Err-clause-refused : goal.returns-in-Err-clause-refused
returns-in-Err-clause-refused c = c.in-Err.ensures.refused c.args.room
