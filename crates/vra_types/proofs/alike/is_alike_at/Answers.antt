use Rattle.std.proofs.Common.{length, refl, arith}
use Rattle.std.proofs.lemmas.Bool.Decides.{nat_tests}
use Rattle.std.proofs.lemmas.Option.{slice_get_read}
use Rattle.vra_types.proofs.alike.is_alike_at.Goals as goal

pub returns-in-Some : goal.returns-in-Some
returns-in-Some c = λ alike. record { place = c.args.place; other = c.in-Some.other.now; there = slice_get_read c.args.earlier.now (length c.args.earlier.now) c.args.place c.in-Some.other.now refl (grind (arith, nat_tests)) c.in-Some.ensures.lookup.1; alike = c.are_alike.ensures alike }
