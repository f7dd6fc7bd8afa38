use Rattle.ulfm_explain.proofs.explaining.put_account.Goals as goal

pub returns : goal.returns
returns g c =
    record { offered = c.put_offers.new.shown.items; offers = c.in_ok-put_offers.ensures; notes = c.in_ok-put_notes.ensures }
