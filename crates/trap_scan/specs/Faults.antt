-- Why the records are not known to stand, from what reading the next one answers.
use Rattle.trap_scan.specs.declared.fault.ScanFault.{ScanFault}
use Rattle.trap_scan.specs.declared.fault.ScanFault.TheVariants as scan
use Rattle.trap_scan.specs.declared.fault.CheckFault.{CheckFault}
use Rattle.trap_scan.specs.declared.fault.CheckFault.TheVariants.{DiskFault, Damaged}

abbrev pub check_fault : ScanFault → CheckFault
check_fault scan.DiskFault = DiskFault
check_fault (scan.Damaged at) = Damaged at
