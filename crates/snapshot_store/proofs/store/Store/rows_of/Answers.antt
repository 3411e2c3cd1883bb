use Rattle.std.proofs.Common.{◌≡◌, ◌∙◌, sym, ap, subst}
use Rattle.snapshot_store.proofs.ReadLaws.{is_none, is_some, map_ok, rows_seen_at, rows_written_at}
use Rattle.snapshot_store.specs.Parts.{AreRowsAt}
use Rattle.store_states.specs.Stored.{Stored}
use Rattle.store_states.specs.Views.{IsTidy}
use Rattle.version_lists.specs.Versions.{rows_seen}
use Rattle.snapshot_store.proofs.store.Store.rows_of.Goals as goal

-- src/read.rt
pub returns-then-is_empty : goal.returns-then-is_empty
returns-then-is_empty g c =
    let store = c.args.self.now in
    let tidy : IsTidy store = subst IsTidy c.self.view_is c.self.invariant.tidy in
    rows_seen_at store c.args.snap.now c.args.number c.args.table.now c.args.writes.now c.in_ok-rows.rows tidy c.requires.live c.requires.table (is_none c.args.writes.now (sym c.is_empty.ensures ∙ c.if-is_empty.true))
    (c.in_ok-rows.ensures ∙ ap (λ n. rows_seen n c.args.number c.self.inside.versions.versions) c.number.ensures ∙ ap (λ (s : Stored). rows_seen c.args.snap.now.1 c.args.number s.rows.versions) c.self.view_is)

pub returns : goal.returns
returns g c =
    let store = c.args.self.now in
    let tidy : IsTidy store = subst IsTidy c.self.view_is c.self.invariant.tidy in
    let seen : c.in_ok-rows.rows ≡ rows_seen c.args.snap.now.1 c.args.number store.rows.versions =
    c.in_ok-rows.ensures ∙ ap (λ n. rows_seen n c.args.number c.self.inside.versions.versions) c.number.ensures ∙ ap (λ (s : Stored). rows_seen c.args.snap.now.1 c.args.number s.rows.versions) c.self.view_is in
    map_ok c.written.result
    (λ rows carries. rows_written_at store c.args.snap.now c.args.number c.args.table.now c.args.writes.now c.in_ok-rows.rows rows tidy c.requires.live c.requires.table c.requires.taken
    (is_some c.args.writes.now (sym c.is_empty.ensures ∙ c.if-is_empty.false)) seen carries) c.written.ensures
