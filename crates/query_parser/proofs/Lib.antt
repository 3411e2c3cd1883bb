pub mod ClauseLaws
mod CondWalks
pub mod ConditionLaws
mod ExpressionLaws
mod HereLaws
mod HereParts
mod Heres
mod NumberLaws
pub mod ParseLaws
mod PartWalks
mod PlainConds
mod PlainLaws
mod PlainParts
mod PlainQueries
mod PlainTokens
mod Printables
mod PrintedConds
mod PrintedItems
mod PrintedLaws
mod PrintedQueries
mod PrintedTexts
mod PrintedWrites
mod ProgramParts
mod ProgramQueries
mod ProgramStatements
mod Programs
mod QueryWalks
mod QuoteTexts
pub mod ReprintLaws
pub mod SettingLaws
mod SignLaws
pub mod StatementLaws
pub mod StatementWalks
pub mod TextLaws
mod Walks
pub mod WordLaws
mod WriteWalks
