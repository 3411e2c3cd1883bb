use Rattle.vtable.proofs.configured.configure.Goals as goal

pub returns : goal.returns
returns c = c.in_ok-plain.ensures c.requires
