use Rattle.slot_cert.proofs.OneCertificate
use Rattle.slot_cert.proofs.laws.one_certificate.Goals as goal

pub returns : goal.returns
returns c = OneCertificate.one_certificate
