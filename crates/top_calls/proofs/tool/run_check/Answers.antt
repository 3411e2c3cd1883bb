use Rattle.top_calls.proofs.tool.run_check.Goals as goal

pub returns-then-put_all-clause-ends : goal.returns-then-put_all-clause-ends
returns-then-put_all-clause-ends g c = record {
  catalog = c.in-Ok.passed.catalog;
  rows = c.in-Ok.passed.rows;
  checked = c.in-Ok.ensures.checked;
  put = rw (c.as_slice.ensures.value, c.in-Ok-line_of_passed.ensures) at c.if-put_all.ensures.put.0;
}

pub returns-then-put_all-clause-told : goal.returns-then-put_all-clause-told
returns-then-put_all-clause-told g c = record {
  catalog = c.in-Ok.passed.catalog;
  rows = c.in-Ok.passed.rows;
  checked = c.in-Ok.ensures.checked;
  put = rw (c.as_slice.ensures.value, c.in-Ok-line_of_passed.ensures) at c.if-put_all.ensures.put.0;
}

pub returns-clause-told : goal.returns-clause-told
returns-clause-told g c = record {
  catalog = c.in-Ok.passed.catalog;
  rows = c.in-Ok.passed.rows;
  checked = c.in-Ok.ensures.checked;
  put = rw (c.as_slice.ensures.value, c.in-Ok-line_of_passed.ensures) at c.if-put_all.ensures.put.0;
}

pub returns-clause-ends : goal.returns-clause-ends
returns-clause-ends g c = (
  c.if-put_all.ensures.put.1,
  record {
    catalog = c.in-Ok.passed.catalog;
    rows = c.in-Ok.passed.rows;
    checked = c.in-Ok.ensures.checked;
    put = rw (c.as_slice.ensures.value, c.in-Ok-line_of_passed.ensures) at c.if-put_all.ensures.put.0;
  },
)
