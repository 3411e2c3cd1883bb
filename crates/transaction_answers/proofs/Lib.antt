mod MemberLaws
mod OverLaws
mod ParamLaws
mod SameLaws
mod SeenLaws
mod TableLaws
