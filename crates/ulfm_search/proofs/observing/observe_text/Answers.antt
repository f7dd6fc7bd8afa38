-- What is shown of an answer is what the answer says.
use Rattle.std.proofs.Common.{◌∙◌, inl, inr}
use Rattle.ulfm_search.proofs.observing.observe_text.Goals as goal

-- the trace that explains the log is shown
pub returns-in_ok-explained-in-Explained : goal.returns-in_ok-explained-in-Explained
returns-in_ok-explained-in-Explained g c =
    let a = rw c.in-Explained.is at c.in_ok-limits.ensures in
    let shown = c.in_ok-explained-in-Explained.ensures in (
      a.0,
      a.1,
      inl (
        c.in-Explained.steps.items,
        record {
          explains = a.2.1;
          shown_is = cc (shown.text, c.deref.ensures.value, a.2.0);
          status_is = shown.status;
        },
      ),
    )

-- the reason is shown
pub returns-in-Nothing : goal.returns-in-Nothing
returns-in-Nothing g c =
    let a = rw c.in-Nothing.is at c.in_ok-limits.ensures in (
      a.0,
      a.1,
      inr (inl (a.2.0, (c.in-Nothing.proved, record { shown_is = c.nothing.ensures.text ∙ a.2.1.0; proves = a.2.1.1; status_is = c.nothing.ensures.status }))),
    )

-- the search was given up
pub returns-in_ok-unknown-in-Unknown : goal.returns-in_ok-unknown-in-Unknown
returns-in_ok-unknown-in-Unknown g c =
    let a = rw c.in-Unknown.is at c.in_ok-limits.ensures in
    (a.0, a.1, inr (inr c.in_ok-unknown-in-Unknown.ensures))
