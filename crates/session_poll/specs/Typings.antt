-- What a query is typed as, and whether a write is well typed.
use Rattle.std.specs.Prelude.{List, [], Option, Some, None, Result, Ok, Err}
use Rattle.query_meaning.specs.Typing.{IsTyped, Refuses}
use Rattle.query_meaning.specs.WriteTyping.{IsWellTypedWrite, RefusesWrite}
use Rattle.query_meaning.specs.declared.ill.TypeRefused.{TypeRefused}
use Rattle.query_meaning.specs.declared.ill.TypeRefused.TheVariants as refused
use Rattle.query_meaning.specs.declared.plan.Plan.{Plan}
use Rattle.query_meaning.specs.declared.typed.TypedColumn.{TypedColumn}
use Rattle.session_replies.specs.declared.refusal.Refusal.{Refusal}
use Rattle.session_replies.specs.declared.refusal.Refusal.TheVariants as refusal
use Rattle.vra_syntax.specs.declared.query.Query.{Query}
use Rattle.vra_syntax.specs.declared.write.Write.{Write}
use Rattle.vschema.specs.declared.catalog.Catalog.{Catalog}

-- a query without parameters has this type
abbrev pub HasType : Catalog → Query → List TypedColumn → Plan → Type 0
HasType catalog query columns plan = IsTyped catalog.model [] catalog.tables query columns plan

-- the columns that its typing may give
pub record AreColumns (catalog : Catalog) (query : Query) (columns : List TypedColumn) : Type 0 where
  pub plan : Plan
  pub has_type : HasType catalog query columns plan

-- The columns, or any case that holds for which the query has no type. Want of memory is told apart, and is none.
abbrev pub Types : Catalog → Query → Result (List TypedColumn) TypeRefused → Type 0
Types catalog query (Ok columns) = AreColumns catalog query columns
Types catalog query (Err refused.Memory) = ⊥
Types catalog query (Err why) = Refuses catalog.model [] catalog.tables query why

-- The same of a write without parameters: it is well typed where nothing is found against it.
abbrev pub TypesWrite : Catalog → Write → Option TypeRefused → Type 0
TypesWrite catalog it None = IsWellTypedWrite catalog.model [] catalog.tables it
TypesWrite catalog it (Some refused.Memory) = ⊥
TypesWrite catalog it (Some why) = RefusesWrite catalog.model [] catalog.tables it why

-- why a statement that has no type is refused
abbrev pub refusal_for : TypeRefused → Refusal
refusal_for refused.Memory = refusal.OutOfMemory
refusal_for why = refusal.Untyped why

-- a query has no type, or memory ran out
abbrev pub IsUnanswered : Catalog → Query → Refusal → Type 0
IsUnanswered catalog query refusal.OutOfMemory = Unit {0}
IsUnanswered catalog query (refusal.Untyped why) = Types catalog query (Err why)
IsUnanswered catalog query why = ⊥

-- a write has no type, or memory ran out
abbrev pub IsUnwritten : Catalog → Write → Refusal → Type 0
IsUnwritten catalog it refusal.OutOfMemory = Unit {0}
IsUnwritten catalog it (refusal.Untyped why) = TypesWrite catalog it (Some why)
IsUnwritten catalog it why = ⊥
