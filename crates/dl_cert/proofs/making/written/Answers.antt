use Rattle.dl_cert.proofs.Certificates.{is_certificate, is_short}
use Rattle.dl_cert.proofs.making.written.Goals as goal

pub returns-clause-certificate : goal.returns-clause-certificate
returns-clause-certificate c covered = is_certificate covered c.in_ok-_last.ensures.ends

pub returns-clause-short : goal.returns-clause-short
returns-clause-short c = is_short c.in_ok-_last.ensures.ends.written c.requires.plan.few c.in_ok-_last.ensures.count
