use Rattle.std.proofs.Common.{rules, refl, ap, ◌∙◌, ◌++◌, List, ℕ}
use Rattle.session_poll.proofs.StartLaws.{welcomed}
use Rattle.session_poll.specs.Session.{waiting_of}
use Rattle.session_poll.specs.StartUps.{welcome}
use Rattle.session_poll.specs.State.{status_of}
use Rattle.session_poll.proofs.session.Session.welcome.Goals as goal
use Rattle.session_replies.specs.Replies.{spelled}
use Rattle.session_transactions.specs.Transactions.{transaction_of}
use Rattle.vschema.specs.declared.catalog.Catalog.{Catalog}

pub returns-in-Ok : goal.returns-in-Ok
returns-in-Ok g c =
    welcomed c.args.self.now c.put_welcome.new.self _ c.args.store.now
    (c.in-Ok.ensures.ok ∙ ap (λ (k : Catalog). waiting_of c.args.self.now ++ spelled (welcome k (status_of (transaction_of c.args.self.now.transaction)))) c.catalog.ensures)
    c.put_welcome.ensures.state refl refl refl (search rules)
