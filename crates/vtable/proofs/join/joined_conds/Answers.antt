use Rattle.std.proofs.Common.{◌≡◌, ◌++◌, ◌∷◌, [], ◌∙◌, ◌≤◌, ◌+◌, sym, subst, rules}
use Rattle.feature_expr.specs.Expressions.{weight_of}
use Rattle.vtable.proofs.JoinLaws.{first_last, first_last_cost, first_last_known}
use Rattle.vtable.proofs.join.joined_conds.Goals as goal

pub returns-clause-holds : goal.returns-clause-holds
returns-clause-holds c =
    let is : c.push.new.self.items ≡ c.args.more ++ c.args.first ∷ [] = search rules in
    λ d. c.in_ok-whole.ensures.holds d ∙ first_last d c.args.first c.args.more _ is

pub returns-clause-weight : goal.returns-clause-weight
returns-clause-weight c =
    let is : c.push.new.self.items ≡ c.args.more ++ c.args.first ∷ [] = search rules in
    subst (λ n. weight_of c.in_ok-whole.whole + 1 ≤ n) (first_last_cost c.args.first c.args.more _ is) c.in_ok-whole.ensures.weight

pub returns-clause-known : goal.returns-clause-known
returns-clause-known c =
    let is : c.push.new.self.items ≡ c.args.more ++ c.args.first ∷ [] = search rules in
    λ i h. sym (first_last_known i c.args.first c.args.more _ is) ∙ c.in_ok-whole.ensures.known i h
